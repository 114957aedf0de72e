use Rattle.std.proofs.Common.{◌≡◌, map, string_bytes, ap, sym, ◌∙◌, subst, Ok, None}
use Rattle.std.proofs.Common.{refl, true}
use Rattle.oxc_sourcemap_tokens.specs.declared.errors.plan_error.PlanError.TheVariants.{Map}
use Rattle.oxc_sourcemap_parts.specs.Views.{record_of_parts}
use Rattle.oxc_sourcemap_plan.specs.Meaning.{meaning}
use Rattle.oxc_sourcemap_plan.specs.Outcome.{outcome}
use Rattle.oxc_sourcemap_plan.specs.Evaluated.{IsEvaluated, are_among}
use Rattle.oxc_sourcemap_plan.specs.PlanInputs.{inputs_of}
use Rattle.oxc_sourcemap_plan.specs.PlanArguments.{parsed_plan}
use Rattle.oxc_sourcemap_plan.proofs.Parts.{from_err}
use Rattle.oxc_sourcemap_plan.specs.PlanPlaces.{fault_place_in}
use Rattle.oxc_sourcemap_plan.specs.declared.run_error.RunError.TheVariants.{Plan}
use Rattle.oxc_sourcemap_plan.proofs.Numbered.{told_place}
use Rattle.smap_run.specs.ErrorPlaces.{IsPlanPlaceIn}
use Rattle.smap_run.proofs.Places.{placed_on}
use Rattle.smap_run.proofs.PlanAnswers.{words_error, plan_error_of, by_outcome, plan_answers}
use Rattle.smap_run.proofs.PlanAnswers.{writing_fails, writing_place}
use Rattle.smap_run.proofs.running.plan_text.Goals as goal

pub returns-in_err-plan-clause-error : goal.returns-in_err-plan-clause-error
returns-in_err-plan-clause-error c =
    let arguments = map string_bytes c.args.arguments.now in
    let texts = ap (map (λ text. text.now)) c.as_slice.ensures.value ∙ c.in_ok-inputs.ensures ∙ ap inputs_of c.as_str.ensures.value in
    from_err c.from_residual-in_err-plan.result _ _ c.from_residual-in_err-plan.ensures.1 (λ e h n. words_error (parsed_plan (inputs_of (string_bytes c.args.input)) arguments) c.in_err-plan.field-0.0 e.error
    (ap (λ ts. parsed_plan ts arguments) (sym texts) ∙ c.in_err-plan.ensures.error (λ q. n (ap (λ f. f.error) h ∙ q))) (ap (λ f. f.error) h))

pub returns-in-Err-clause-error : goal.returns-in-Err-clause-error
returns-in-Err-clause-error c =
    let arguments = map string_bytes c.args.arguments.now in
    let texts = ap (map (λ text. text.now)) c.as_slice.ensures.value ∙ c.in_ok-inputs.ensures ∙ ap inputs_of c.as_str.ensures.value in
    let named : parsed_plan (inputs_of (string_bytes c.args.input)) arguments ≡ Ok (outcome c.in_ok-plan.plan) = ap (λ ts. parsed_plan ts arguments) (sym texts) ∙ c.in_ok-plan.ensures.plan in
    λ n. plan_error_of (parsed_plan (inputs_of (string_bytes c.args.input)) arguments) (outcome c.in_ok-plan.plan) c.in-Err.fault.error c.plan_failure.result.error named c.plan_failure.ensures.error n
    (by_outcome (outcome c.in_ok-plan.plan) (meaning c.in_ok-plan.plan) c.in-Err.fault.error c.in-Err.ensures.same_meaning c.in-Err.ensures.error)

pub returns-in_err-plan-clause-place : goal.returns-in_err-plan-clause-place
returns-in_err-plan-clause-place c =
    let arguments = map string_bytes c.args.arguments.now in
    let inputs = inputs_of (string_bytes c.args.input) in
    let texts = ap (map (λ text. text.now)) c.as_slice.ensures.value ∙ c.in_ok-inputs.ensures ∙ ap inputs_of c.as_str.ensures.value in
    let e = c.in_err-plan.field-0.0 in
    placed_on (IsPlanPlaceIn inputs (parsed_plan inputs arguments)) c.from_residual-in_err-plan.result (record { error = e; place = None; reason = None }) c.from_residual-in_err-plan.ensures.1
    (λ n. subst (λ r. IsPlanPlaceIn inputs r e None) (sym (ap (λ ts. parsed_plan ts arguments) (sym texts) ∙ c.in_err-plan.ensures.error n)) refl)

pub returns-in-Err-clause-place : goal.returns-in-Err-clause-place
returns-in-Err-clause-place c =
    let arguments = map string_bytes c.args.arguments.now in
    let inputs = inputs_of (string_bytes c.args.input) in
    let texts = ap (map (λ text. text.now)) c.as_slice.ensures.value ∙ c.in_ok-inputs.ensures ∙ ap inputs_of c.as_str.ensures.value in
    let again = ap (map (λ text. text.now)) c.as_slice-in-Err.ensures.value ∙ c.in_ok-inputs.ensures ∙ ap inputs_of c.as_str.ensures.value in
    let o = outcome c.in_ok-plan.plan in
    let f = c.in-Err.fault in
    let named : parsed_plan inputs arguments ≡ Ok o = ap (λ ts. parsed_plan ts arguments) (sym texts) ∙ c.in_ok-plan.ensures.plan in
    let among : are_among inputs o.texts ≡ true = ap (λ ts. are_among ts o.texts) (sym texts) ∙ c.in_ok-plan.ensures.texts in
    λ n. subst (λ r. IsPlanPlaceIn inputs r c.plan_failure.result.error c.plan_failure.result.place) (sym named) (
      f.error,
      c.plan_failure.ensures.error,
      told_place inputs o f c.plan_failure.result.place among (λ memory. n (c.plan_failure.ensures.error ∙ ap (λ e. Plan e) memory)) c.in-Err.ensures.told
          (c.plan_failure.ensures.place ∙ ap (λ ts. fault_place_in ts f) again),
    )

pub returns-in_err-write_over-clause-place : goal.returns-in_err-write_over-clause-place
returns-in_err-write_over-clause-place c =
    let arguments = map string_bytes c.args.arguments.now in
    let inputs = inputs_of (string_bytes c.args.input) in
    let texts = ap (map (λ text. text.now)) c.as_slice.ensures.value ∙ c.in_ok-inputs.ensures ∙ ap inputs_of c.as_str.ensures.value in
    let o = outcome c.in_ok-plan.plan in
    let named : parsed_plan inputs arguments ≡ Ok o = ap (λ ts. parsed_plan ts arguments) (sym texts) ∙ c.in_ok-plan.ensures.plan in
    let fault = c.in_err-write_over.field-0.0 in
    let is = subst (IsEvaluated (record_of_parts c.in-Ok.map)) (sym c.in-Ok.ensures.same_meaning) c.in-Ok.ensures.map in
    placed_on (IsPlanPlaceIn inputs (parsed_plan inputs arguments)) c.from_residual-in_err-write_over.result (record { error = Plan (Map fault); place = None; reason = None }) c.from_residual-in_err-write_over.ensures.1
    (λ n. subst (λ r. IsPlanPlaceIn inputs r (Plan (Map fault)) None) (sym named) (
      Map fault,
      refl,
      writing_place c.canonical_unique.ensures.sound_is_too_large inputs o (record_of_parts c.in-Ok.map) fault is c.in-Ok.ensures.outcome c.in_err-write_over.ensures.1 (λ memory. n (ap (λ e. Plan (Map e)) memory)),
    ))

pub returns-in_err-write_over-clause-error : goal.returns-in_err-write_over-clause-error
returns-in_err-write_over-clause-error c =
    let arguments = map string_bytes c.args.arguments.now in
    let texts = ap (map (λ text. text.now)) c.as_slice.ensures.value ∙ c.in_ok-inputs.ensures ∙ ap inputs_of c.as_str.ensures.value in
    let named : parsed_plan (inputs_of (string_bytes c.args.input)) arguments ≡ Ok (outcome c.in_ok-plan.plan) = ap (λ ts. parsed_plan ts arguments) (sym texts) ∙ c.in_ok-plan.ensures.plan in
    let fault = c.in_err-write_over.field-0.0 in
    let is = subst (IsEvaluated (record_of_parts c.in-Ok.map)) (sym c.in-Ok.ensures.same_meaning) c.in-Ok.ensures.map in
    from_err c.from_residual-in_err-write_over.result _ _ c.from_residual-in_err-write_over.ensures.1 (λ e h n. plan_error_of (parsed_plan (inputs_of (string_bytes c.args.input)) arguments) (outcome c.in_ok-plan.plan) (Map fault) e.error named (ap (λ f. f.error) h) n
    (λ other. writing_fails c.canonical_unique.ensures.sound_is_too_large (outcome c.in_ok-plan.plan) (record_of_parts c.in-Ok.map) fault is c.in-Ok.ensures.outcome
    c.in_err-write_over.ensures.1 (λ q. other (ap Map q))))

pub returns-clause-text : goal.returns-clause-text
returns-clause-text c =
    let arguments = map string_bytes c.args.arguments.now in
    let texts = ap (map (λ text. text.now)) c.as_slice.ensures.value ∙ c.in_ok-inputs.ensures ∙ ap inputs_of c.as_str.ensures.value in
    let named : parsed_plan (inputs_of (string_bytes c.args.input)) arguments ≡ Ok (outcome c.in_ok-plan.plan) = ap (λ ts. parsed_plan ts arguments) (sym texts) ∙ c.in_ok-plan.ensures.plan in
    let is = subst (IsEvaluated (record_of_parts c.in-Ok.map)) (sym c.in-Ok.ensures.same_meaning) c.in-Ok.ensures.map in
    plan_answers (parsed_plan (inputs_of (string_bytes c.args.input)) arguments) (outcome c.in_ok-plan.plan) (string_bytes c.in_ok-write_over.field-0) named
    (record_of_parts c.in-Ok.map, is, c.in-Ok.ensures.outcome, c.in_ok-write_over.ensures.0)
