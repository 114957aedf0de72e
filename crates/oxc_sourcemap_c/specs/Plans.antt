-- Plans of words over texts, and their errors with the places of their faults.
use Rattle.std.specs.Prelude.{◌≡◌, ◌⊎◌, List, Option, None, Result, Ok, Err}
use Rattle.oxc_sourcemap_tokens.specs.declared.errors.plan_error.PlanError.{PlanError}
use Rattle.oxc_sourcemap_parts.specs.Record.{Text, MapRecord}
use Rattle.oxc_sourcemap_tokens.specs.declared.errors.fault.FaultPlace.{FaultPlace}
use Rattle.oxc_sourcemap_plan.specs.Outcome.{Outcome}
use Rattle.oxc_sourcemap_plan.specs.Evaluated.{IsEvaluated, HasOutcome, IsErrorOf}
use Rattle.oxc_sourcemap_plan.specs.PlanArguments.{parsed_plan}
use Rattle.oxc_sourcemap_plan.specs.declared.run_error.RunError.{RunError}
use Rattle.oxc_sourcemap_plan.specs.declared.run_error.RunError.TheVariants.{Plan as PlanFails}
use Rattle.oxc_sourcemap_plan.specs.declared.run_error.RunError.TheVariants.{Read, Write, Utf8}
use Rattle.oxc_sourcemap_plan.specs.declared.run_error.RunError.TheVariants.{Arguments}
use Rattle.oxc_sourcemap_plan.specs.declared.run_error.RunError.TheVariants.{NoText as NoInput}
use Rattle.oxc_sourcemap_plan.specs.PlanPlaces.{IsOutcomePlace}
use Rattle.oxc_sourcemap_c.specs.declared.numbers.call_error.CallError.{CallError}
use Rattle.oxc_sourcemap_c.specs.declared.numbers.call_error.CallError.TheVariants.{Plan}
use Rattle.oxc_sourcemap_c.specs.declared.numbers.call_error.CallError.TheVariants.{Words}
use Rattle.oxc_sourcemap_c.specs.declared.numbers.call_error.CallError.TheVariants.{NoText}
use Rattle.oxc_sourcemap_c.specs.Lists.{AreTexts, IsNotTexts}

-- the error for C of an error of a plan: all but a missing text and an error of evaluation become `Words`
abbrev pub call_error_of_run : RunError → CallError
call_error_of_run (PlanFails error) = Plan error
call_error_of_run Read = Words
call_error_of_run Write = Words
call_error_of_run Utf8 = Words
call_error_of_run Arguments = Words
call_error_of_run (NoInput k) = NoText k

-- the map of a plan is as is promised for what the plan means, and for its outcome
abbrev pub IsPlanMap : Result Outcome RunError → MapRecord → Type 0
IsPlanMap (Err e) m = ⊥
IsPlanMap (Ok o) m = IsEvaluated m o.meaning × HasOutcome m o

-- an error of evaluating a plan
abbrev pub of_plan : PlanError → CallError
of_plan e = Plan e

-- An error of a plan over these texts, by the outcome of its words, and its place: the first fault of the words, which has none,
-- or an error of its evaluation.
abbrev pub IsOutcomeErrorAt : List Text → Result Outcome RunError → CallError → Option FaultPlace → Type 0
IsOutcomeErrorAt texts (Err e) r place = (r ≡ call_error_of_run e) × (place ≡ None)
IsOutcomeErrorAt texts (Ok o) r place =
    (p : PlanError) × IsErrorOf o.meaning o.is_within_limits p × (r ≡ of_plan p) × IsOutcomePlace texts o p place

-- an error of the plan of these words over these texts, and its place
abbrev pub IsEvaluationErrorAt : List Text → List Text → CallError → Option FaultPlace → Type 0
IsEvaluationErrorAt words texts r place = IsOutcomeErrorAt texts (parsed_plan texts words) r place

-- an error of words and texts in bytes, and its place: one is not UTF-8, or their plan fails
abbrev pub IsPlanErrorAt : List Text → List Text → CallError → Option FaultPlace → Type 0
IsPlanErrorAt words texts r place =
    (IsNotTexts words r × (place ≡ None)) ⊎ ((AreTexts words × IsNotTexts texts r × (place ≡ None))
    ⊎ (AreTexts words × AreTexts texts × IsEvaluationErrorAt words texts r place))
