use Rattle.std.proofs.Common.{subst, sym}
use Rattle.oxc_sourcemap_parts.specs.Views.{record_of_parts}
use Rattle.oxc_sourcemap_steps.specs.Inputs.{owned_input_records}
use Rattle.oxc_sourcemap_plan.specs.Outcome.{remap_outcome}
use Rattle.oxc_sourcemap_plan.specs.Realizes.{FailsAs}
use Rattle.oxc_sourcemap_plan.proofs.Remapping.{remap_laws, remap_gives, remap_error, inputs_sorted}
use Rattle.oxc_sourcemap_plan.proofs.Realizing.{unless_memory}
use Rattle.oxc_sourcemap_plan.proofs.Parts.{from_err}
use Rattle.oxc_sourcemap_plan.proofs.plan.remap.Goals as goal

pub returns-in_err-remap_owned_parts-clause-error : goal.returns-in_err-remap_owned_parts-clause-error
returns-in_err-remap_owned_parts-clause-error c =
    let law = c.remapping_associative.ensures in
    let laws = remap_laws law.stands_for law.counts law.names law.sorted_goes_on law.answered law.too_large law.in_bounds in
    let ms = owned_input_records c.args.inputs.items in
    let call = c.in_err-remap_owned_parts.ensures in
    from_err c.from_residual.result _ _ c.from_residual.ensures.1 (λ e h o os g ready. subst (λ x. FailsAs x (remap_outcome o os)) (sym h)
    (unless_memory c.in_err-remap_owned_parts.field-0.0 (remap_outcome o os) (λ n. remap_error laws (record_of_parts c.args.map) ms o os g ready c.in_err-remap_owned_parts.field-0.0 (call.error (law.sorted_goes_on ms (inputs_sorted ms os ready)).0 n))))

pub returns-clause-map : goal.returns-clause-map
returns-clause-map c = λ o os g ready.
    let law = c.remapping_associative.ensures in
    let laws = remap_laws law.stands_for law.counts law.names law.sorted_goes_on law.answered law.too_large law.in_bounds in
    let ms = owned_input_records c.args.inputs.items in
    remap_gives laws (record_of_parts c.args.map) ms o os g ready (record_of_parts c.in_ok-remap_owned_parts.field-0) (c.in_ok-remap_owned_parts.ensures.map (law.sorted_goes_on ms (inputs_sorted ms os ready)).0)
