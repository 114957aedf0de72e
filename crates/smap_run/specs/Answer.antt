-- The answer of a command to an input, and its errors.
use Rattle.std.specs.Prelude.{◌≡◌, ◌++◌, ℕ, List, Option, Some, None, Result, Ok, Err, ◌⊎◌, IsUtf8}
use Rattle.std.specs.Prelude.{IfSome}
use Rattle.std.specs.Io.BufRead.{strip_last}
use Rattle.std.specs.Io.KnownBytes.{Appends}
use Rattle.oxc_sourcemap_tokens.specs.declared.errors.error.Error.{Error}
use Rattle.oxc_sourcemap_parts.specs.Record.{MapRecord}
use Rattle.oxc_sourcemap_tokens.specs.Token.{TokenRecord}
use Rattle.oxc_sourcemap_mappings.specs.Reading.{reading}
use Rattle.oxc_sourcemap_mappings.specs.Canonical.{canonical}
use Rattle.oxc_sourcemap_mappings.specs.ChunkTexts.{writing_fault}
use Rattle.oxc_sourcemap_json.specs.Shape.{◌>>=◌}
use Rattle.oxc_sourcemap_json.specs.ReadMap.{read_map}
use Rattle.oxc_sourcemap_json.specs.JsonText.{map_text, map_url}
use Rattle.oxc_sourcemap_tokens.specs.declared.errors.plan_error.PlanError.{PlanError}
use Rattle.oxc_sourcemap_tokens.specs.declared.errors.plan_error.PlanError.TheVariants.{Map}
use Rattle.oxc_sourcemap_plan.specs.declared.run_error.RunError.{RunError}
use Rattle.oxc_sourcemap_plan.specs.declared.run_error.RunError.TheVariants.{Plan, Utf8}
use Rattle.smap_run.specs.Traced.{traced}
use Rattle.smap_run.specs.Request.{Request, Mappings, Normalise, Plan as PlanOf, Trace, Url}
use Rattle.oxc_sourcemap_plan.specs.Outcome.{Outcome}
use Rattle.oxc_sourcemap_plan.specs.Evaluated.{IsEvaluated, HasOutcome, IsErrorOf}
use Rattle.oxc_sourcemap_plan.specs.PlanInputs.{inputs_of}
use Rattle.oxc_sourcemap_plan.specs.PlanArguments.{parsed_plan}

-- a text without the line feed at its end, if it has one
abbrev pub without_line_feed : List ℕ → List ℕ
without_line_feed text = strip_last 10 text

-- the canonical text of tokens, or the fault of writing them
abbrev pub written : Option Error → List TokenRecord → Result (List ℕ) RunError
written None tokens = Ok (canonical tokens)
written (Some fault) tokens = Err (Plan (Map fault))

-- the answer of `mappings` to a text that is read like this: the canonical text of its tokens
abbrev pub mappings_answer : Result (List TokenRecord) Error → Result (List ℕ) RunError
mappings_answer (Ok tokens) = written (writing_fault tokens None) tokens
mappings_answer (Err fault) = Err (Plan (Map fault))

-- the JSON text of the map of a JSON text
abbrev pub normalised : List ℕ → Result (List ℕ) Error
normalised text = read_map text >>= map_text

-- the data URL of the map of a JSON text
abbrev pub normalised_url : List ℕ → Result (List ℕ) Error
normalised_url text = read_map text >>= map_url

-- the result of a call on a map, whose error is the program's
abbrev pub of_map : Result (List ℕ) Error → Result (List ℕ) RunError
of_map (Ok text) = Ok text
of_map (Err fault) = Err (Plan (Map fault))

-- the result of a step of a plan or of `trace`, whose error is the program's
abbrev pub of_plan : Result (List ℕ) PlanError → Result (List ℕ) RunError
of_plan (Ok text) = Ok text
of_plan (Err error) = Err (Plan error)

-- the answer to a plan: the JSON text of a map that is as is promised for what the plan means, and for its outcome
abbrev pub IsPlanAnswer : Result Outcome RunError → List ℕ → Type 0
IsPlanAnswer (Err fault) out = ⊥
IsPlanAnswer (Ok o) out = (m : MapRecord) × IsEvaluated m o.meaning × HasOutcome m o × (map_text m ≡ Ok out)

-- an error of a plan: the first fault of its arguments, what the plan means, or `TooLarge` if it is not within the limits
abbrev pub IsPlanError : Result Outcome RunError → RunError → Type 0
IsPlanError (Err fault) e = e ≡ fault
IsPlanError (Ok o) e = (p : PlanError) × (e ≡ Plan p) × IsErrorOf o.meaning o.is_within_limits p

-- The answer of a command to a text. One line feed is written after it.
abbrev pub IsAnswer : Request → List ℕ → List ℕ → Type 0
IsAnswer (Mappings names sources) text out = mappings_answer (reading (without_line_feed text) names sources) ≡ Ok out
IsAnswer Normalise text out = of_map (normalised text) ≡ Ok out
IsAnswer Url text out = of_map (normalised_url text) ≡ Ok out
IsAnswer (Trace line col) text out = of_plan (traced text line col) ≡ Ok out
IsAnswer (PlanOf arguments) text out = IsPlanAnswer (parsed_plan (inputs_of text) arguments) out

-- an error of a command for a text
abbrev pub IsCommandError : Request → List ℕ → RunError → Type 0
IsCommandError (Mappings names sources) text e = mappings_answer (reading (without_line_feed text) names sources) ≡ Err e
IsCommandError Normalise text e = of_map (normalised text) ≡ Err e
IsCommandError Url text e = of_map (normalised_url text) ≡ Err e
IsCommandError (Trace line col) text e = of_plan (traced text line col) ≡ Err e
IsCommandError (PlanOf arguments) text e = IsPlanError (parsed_plan (inputs_of text) arguments) e

-- an input is what a reader has left, if that is known
abbrev pub IsInput : Option (List ℕ) → List ℕ → Type 0
IsInput remaining input = IfSome remaining (λ all. input ≡ all)

-- what is written, if it is known, grows by a beginning of these bytes, perhaps by none of them
abbrev pub AppendsBeginning : Option (List ℕ) → Option (List ℕ) → List ℕ → Type 0
AppendsBeginning old new bytes = (done : List ℕ) × (more : List ℕ) × (done ++ more ≡ bytes) × Appends old new done

-- an error of a command for an input: the input is not UTF-8, or its text has an error
abbrev pub FailsWith : Request → List ℕ → RunError → Type 0
FailsWith request input error = ((¬ (IsUtf8 input)) × (error ≡ Utf8)) ⊎ (IsUtf8 input × IsCommandError request input error)
