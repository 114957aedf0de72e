-- The places of failures.
use Rattle.std.proofs.Common.{◌≡◌, sym, subst, Ok, Err}
use Rattle.std.proofs.Common.{Result, Option, IsUtf8}
use Rattle.std.specs.Result.{IfErr, IsErrAnd}
use Rattle.oxc_sourcemap_tokens.specs.declared.errors.fault.FaultPlace.{FaultPlace}
use Rattle.oxc_sourcemap_parts.specs.Record.{Text}
use Rattle.oxc_sourcemap_plan.specs.declared.run_error.RunError.{RunError}
use Rattle.smap_run.specs.declared.failure.Failure.{Failure}
use Rattle.smap_run.specs.ErrorPlaces.{IsPlaceOfText, IsPlaceOfInput, IsPlacedBy}
use Rattle.smap_run.specs.Request.{Request}

-- a failure that a `?` returns
pub placed_on : {A : Type 0} (These : RunError → Option FaultPlace → Type 0) (r : Result A Failure) (f : Failure) → IsErrAnd r (λ g. g ≡ f) → IsPlacedBy These f → IfErr r (IsPlacedBy These)
placed_on These (Ok x) f is placed = tt
placed_on These (Err g) f is placed = subst (IsPlacedBy These) (sym is) placed

-- the place of an error over an input that is a text
pub place_of_text : (request : Request) (input : Text) (e : RunError) (place : Option FaultPlace) → IsUtf8 input → IsPlaceOfText request input e place → IsPlaceOfInput request input e place
place_of_text request input e place utf8 h = ((λ not. absurd (not utf8)), (λ _. h))
