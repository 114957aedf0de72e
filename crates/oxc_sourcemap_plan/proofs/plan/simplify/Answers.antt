use Rattle.std.proofs.Common.{subst, sym}
use Rattle.oxc_sourcemap_parts.specs.Views.{record_of_parts}
use Rattle.oxc_sourcemap_plan.specs.Outcome.{simplified_outcome}
use Rattle.oxc_sourcemap_plan.specs.Realizes.{FailsAs}
use Rattle.oxc_sourcemap_plan.proofs.Parts.{from_err}
use Rattle.oxc_sourcemap_plan.proofs.Simplifying.{simplify_laws, simplify_gives, simplify_error}
use Rattle.oxc_sourcemap_plan.proofs.Simplifying.{unless_want}
use Rattle.oxc_sourcemap_plan.proofs.plan.simplify.Goals as goal

pub returns-in_err-simplify_parts-clause-error : goal.returns-in_err-simplify_parts-clause-error
returns-in_err-simplify_parts-clause-error c =
    let law = c.simplifying_stands.ensures in
    let laws = simplify_laws c.simplifying_harmless.ensures.decoded_map law.ends_repeats law.stands_for law.counts law.names law.in_bounds in
    let e = c.in_err-simplify_parts.field-0.0 in
    from_err c.from_residual.result _ _ c.from_residual.ensures.1 (λ x h o g. subst (λ x. FailsAs x (simplified_outcome o)) (sym h)
    (unless_want e (simplified_outcome o) (λ n. simplify_error laws (record_of_parts c.args.map) o g e (c.in_err-simplify_parts.ensures.error n))))

pub returns-clause-map : goal.returns-clause-map
returns-clause-map c = λ o g.
    let law = c.simplifying_stands.ensures in
    let laws = simplify_laws c.simplifying_harmless.ensures.decoded_map law.ends_repeats law.stands_for law.counts law.names law.in_bounds in
    simplify_gives laws (record_of_parts c.args.map) o g (record_of_parts c.simplify_parts.new.parts) c.in_ok-simplify_parts.ensures.simplified
