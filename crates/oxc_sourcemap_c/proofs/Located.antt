-- Failures and the places that they tell.
use Rattle.std.proofs.Common.{◌≡◌, ◌≢◌, List, refl, sym, subst, Option, Some, None, true, Result}
use Rattle.std.proofs.Common.{Ok, Err, IsSomeAnd, is_some, ◌⊎◌, inl, inr, ◌∙◌}
use Rattle.std.specs.Result.{IfErr, IsErrAnd}
use Rattle.serde_json.specs.Data.{Data}
use Rattle.serde_json.specs.Read.{read}
use Rattle.oxc_sourcemap_tokens.specs.declared.errors.error.Error.{Error}
use Rattle.oxc_sourcemap_tokens.specs.declared.errors.error.Error.TheVariants.{OutOfMemory}
use Rattle.oxc_sourcemap_tokens.specs.declared.errors.fault.Fault.{Fault as ReadFault}
use Rattle.oxc_sourcemap_tokens.specs.declared.errors.fault.FaultPlace.{FaultPlace}
use Rattle.oxc_sourcemap_tokens.specs.declared.errors.plan_error.PlanError.{PlanError}
use Rattle.oxc_sourcemap_tokens.specs.declared.errors.plan_error.PlanError.TheVariants.{Map}
use Rattle.oxc_sourcemap_parts.specs.Record.{Text}
use Rattle.oxc_sourcemap_json.specs.ReadMap.{read_map}
use Rattle.oxc_sourcemap_json.specs.ValuePlaces.{value_place, IsPlacedIn, IsBytePlace}
use Rattle.oxc_sourcemap_found.specs.FoundMaps.{found}
use Rattle.oxc_sourcemap_found.specs.FoundPlaces.{IsFoundFault, HasPlaceIfRefused}
use Rattle.oxc_sourcemap_plan.specs.declared.fault.PlanFault.{PlanFault}
use Rattle.oxc_sourcemap_plan.specs.Evaluated.{IsErrorOf}
use Rattle.oxc_sourcemap_plan.specs.Meaning.{Meaning}
use Rattle.oxc_sourcemap_plan.specs.Outcome.{Outcome}
use Rattle.oxc_sourcemap_plan.specs.PlanPlaces.{IsTextPlace, IsTold, fault_place_in}
use Rattle.oxc_sourcemap_plan.specs.Evaluated.{are_among}
use Rattle.oxc_sourcemap_plan.proofs.Numbered.{told_place}
use Rattle.oxc_sourcemap_plan.proofs.Realizing.{memory_or_not}
use Rattle.oxc_sourcemap_c.specs.declared.numbers.call_error.CallError.{CallError}
use Rattle.oxc_sourcemap_c.specs.CallErrors.{out_of_memory, of_map}
use Rattle.oxc_sourcemap_c.specs.declared.making.failure.Failure.{Failure}
use Rattle.oxc_sourcemap_c.specs.Failures.{IsFailure, IsTextErrorAt, IsFoundTextErrorAt}
use Rattle.oxc_sourcemap_c.specs.Plans.{of_plan, IsOutcomeErrorAt}

-- what a fault becomes for C
abbrev IsOf : ReadFault → Failure → Type 0
IsOf f g =
    (f.error ≡ OutOfMemory → g ≡ record { error = out_of_memory; place = None }) × ((f.error ≢ OutOfMemory) → g ≡ record { error = of_map f.error; place = f.place })

same-error : (e f : Error) → of_map e ≡ of_map f → e ≡ f
same-error e f h = cc (h)

-- a fault that a `?` returns
pub failed_on : {A : Type 0} (These : CallError → Option FaultPlace → Type 0) (r : Result A Failure) (f : ReadFault) → IsErrAnd r (IsOf f)
    → (f.error ≢ OutOfMemory → These (of_map f.error) f.place) → IfErr r (IsFailure These)
failed_on These (Ok x) f is h = tt
failed_on These (Err g) f is h = elim (memory_or_not f.error) [
  | inl memory ↦ subst (IsFailure These) (sym (is.0 memory)) ((λ q. refl), (λ other. absurd (other refl)))
  | inr other ↦ subst (IsFailure These) (sym (is.1 other)) ((λ memory. absurd (other (same-error f.error OutOfMemory memory))), (λ q. h other))
]

placed : (text : Text) (place : Option FaultPlace) → ((d : Data) → read text ≡ Some d → value_place d ≡ place) → (read text ≡ None → IsSomeAnd place (IsBytePlace text)) → is_some place ≡ true
    → IsSomeAnd place (IsTextPlace text)
placed text None json bad there = absurd (cc (there))
placed text (Some p) json bad there = (json, bad)

-- the fault of a text that is not read
pub text_failed : (text : Text) (f : ReadFault) → (f.error ≢ OutOfMemory → read_map text ≡ Err f.error) → IsPlacedIn text f → f.error ≢ OutOfMemory → IsTextErrorAt text (of_map f.error) f.place
text_failed text f reads is other = let told = is other in (f.error, reads other, refl, placed text f.place told.0 told.1 told.2)

-- the fault of a text as it is found that is not read
pub found_failed : (text : Text) (f : ReadFault) → (f.error ≢ OutOfMemory → found text ≡ Err f.error) → IsFoundFault text f → f.error ≢ OutOfMemory → IsFoundTextErrorAt text (of_map f.error) f.place
found_failed text f reads is other =
    let told = is other in (f.error, reads other, refl, told.0, subst (λ r. HasPlaceIfRefused r f.place) (sym (reads other)) told.1)

same-plan-error : (e : PlanError) (x : Error) → of_plan e ≡ of_map x → e ≡ Map x
same-plan-error e x h = cc (h)

-- the failure of a plan with this outcome
pub plan_failed : (o : Outcome) (m : Meaning) (f : PlanFault) (inputs : List Text) (g : Failure) → f.error ≢ Map OutOfMemory → o.meaning ≡ m
    → (f.error ≡ Map OutOfMemory) ⊎ IsErrorOf m o.is_within_limits f.error → IsTold o f → are_among inputs o.texts ≡ true → g.error ≡ of_plan f.error → g.place ≡ fault_place_in inputs f
    → IsFailure (IsOutcomeErrorAt inputs (Ok o)) g
plan_failed o m f inputs g other is fails told among same place =
    let error : IsErrorOf o.meaning o.is_within_limits f.error =
    elim fails [ inl memory ↦ absurd (other memory) | inr meant ↦ subst (λ w. IsErrorOf w o.is_within_limits f.error) (sym is) meant ] in (
      λ memory. absurd (other (same-plan-error f.error OutOfMemory (sym same ∙ memory))),
      λ n. (f.error, error, same, told_place inputs o f g.place among other told place),
    )
