use Rattle.std.proofs.Common.{subst, sym}
use Rattle.oxc_sourcemap_parts.specs.Views.{record_of_parts}
use Rattle.oxc_sourcemap_plan.specs.Outcome.{composition_outcome}
use Rattle.oxc_sourcemap_plan.specs.Realizes.{FailsAs}
use Rattle.oxc_sourcemap_plan.proofs.Realizing.{compose_laws, compose_gives, compose_error}
use Rattle.oxc_sourcemap_plan.proofs.Realizing.{unless_memory}
use Rattle.oxc_sourcemap_plan.proofs.Parts.{from_err}
use Rattle.oxc_sourcemap_plan.proofs.plan.compose.Goals as goal

pub returns-in_err-compose_parts-clause-error : goal.returns-in_err-compose_parts-clause-error
returns-in_err-compose_parts-clause-error c =
    let law = c.composition_associative.ensures in
    let laws = compose_laws law.stands_for law.names law.tokens law.too_large law.in_bounds in
    let call = c.in_err-compose_parts.ensures in
    from_err c.from_residual.result _ _ c.from_residual.ensures.1 (λ e h p q g k. subst (λ x. FailsAs x (composition_outcome p q)) (sym h)
    (unless_memory c.in_err-compose_parts.field-0.0 (composition_outcome p q) (λ n. compose_error laws (record_of_parts c.args.first) (record_of_parts c.args.second) p q g k c.in_err-compose_parts.field-0.0 (call.error (law.sorted_goes_on _ k.stands.sound.sorted) n))))

pub returns-clause-map : goal.returns-clause-map
returns-clause-map c = λ p q g k.
    let law = c.composition_associative.ensures in
    let laws = compose_laws law.stands_for law.names law.tokens law.too_large law.in_bounds in
    let call = c.in_ok-compose_parts.ensures in
    compose_gives laws (record_of_parts c.args.first) (record_of_parts c.args.second) p q g k (record_of_parts c.in_ok-compose_parts.field-0) (call.map (law.sorted_goes_on _ k.stands.sound.sorted))
