-- Where the input of a command has the fault that its error tells.
use Rattle.std.specs.Prelude.{◌≡◌, ◌≢◌, List, Option, None, Result, Ok, Err, IsSomeAnd, IsUtf8}
use Rattle.std.specs.Result.{MatchResult}
use Rattle.oxc_sourcemap_tokens.specs.declared.errors.plan_error.PlanError.{PlanError}
use Rattle.oxc_sourcemap_parts.specs.Record.{Text}
use Rattle.oxc_sourcemap_mappings.specs.SegmentPlaces.{mappings_place}
use Rattle.oxc_sourcemap_json.specs.ReadMap.{read_map}
use Rattle.oxc_sourcemap_tokens.specs.declared.errors.fault.FaultPlace.{FaultPlace}
use Rattle.oxc_sourcemap_plan.specs.declared.run_error.RunError.{RunError}
use Rattle.oxc_sourcemap_plan.specs.declared.run_error.RunError.TheVariants.{Plan}
use Rattle.oxc_sourcemap_plan.specs.Outcome.{Outcome}
use Rattle.oxc_sourcemap_plan.specs.PlanArguments.{parsed_plan}
use Rattle.oxc_sourcemap_plan.specs.PlanInputs.{inputs_of}
use Rattle.oxc_sourcemap_plan.specs.RunErrors.{out_of_memory}
use Rattle.oxc_sourcemap_plan.specs.PlanPlaces.{IsTextPlace, IsOutcomePlace}
use Rattle.smap_run.specs.declared.failure.Failure.{Failure}
use Rattle.smap_run.specs.Request.{Request, Mappings, Normalise, Plan as PlanOf, Trace, Url}
use Rattle.smap_run.specs.Answer.{without_line_feed}

-- the place of an error of a command that reads this text: that of the first fault of the text, and none if it can be read
abbrev pub IsReadPlace : Text → Option FaultPlace → Type 0
IsReadPlace text place = MatchResult (read_map text) (λ _. place ≡ None) (λ _. IsSomeAnd place (IsTextPlace text))

-- the place of an error of a plan over these inputs, by the outcome of its words: none if these have a fault
abbrev pub IsPlanPlaceIn : List Text → Result Outcome RunError → RunError → Option FaultPlace → Type 0
IsPlanPlaceIn inputs (Err fault) e place = place ≡ None
IsPlanPlaceIn inputs (Ok o) e place = (error : PlanError) × (e ≡ Plan error) × IsOutcomePlace inputs o error place

-- the place, or none, of this error of a command for a text
abbrev pub IsPlaceOfText : Request → Text → RunError → Option FaultPlace → Type 0
IsPlaceOfText (Mappings names sources) text e place = place ≡ mappings_place (without_line_feed text) names sources
IsPlaceOfText Normalise text e place = IsReadPlace text place
IsPlaceOfText Url text e place = IsReadPlace text place
IsPlaceOfText (Trace line col) text e place = IsReadPlace text place
IsPlaceOfText (PlanOf arguments) text e place = IsPlanPlaceIn (inputs_of text) (parsed_plan (inputs_of text) arguments) e place

-- the place, or none, of this error of a command for an input: none if the input is not UTF-8
abbrev pub IsPlaceOfInput : Request → Text → RunError → Option FaultPlace → Type 0
IsPlaceOfInput request input e place = (¬ (IsUtf8 input) → place ≡ None) × (IsUtf8 input → IsPlaceOfText request input e place)

-- A failure, unless it is want of memory, has such a place.
abbrev pub IsPlacedBy : (RunError → Option FaultPlace → Type 0) → Failure → Type 0
IsPlacedBy These f = (f.error ≢ out_of_memory) → These f.error f.place
