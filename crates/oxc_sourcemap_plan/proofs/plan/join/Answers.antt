use Rattle.std.proofs.Common.{subst, sym, ap, ◌∙◌}
use Rattle.std.proofs.lemmas.Result.{IfOk-weaker, IfErr-weaker}
use Rattle.oxc_sourcemap_parts.specs.Record.{MapRecord}
use Rattle.oxc_sourcemap_parts.specs.Sorted.{are_tokens_sorted}
use Rattle.oxc_sourcemap_join.specs.Joined.{IsWithinLimits, owned_records}
use Rattle.oxc_sourcemap_plan.specs.Outcome.{join_outcome}
use Rattle.oxc_sourcemap_plan.specs.Realizes.{Realizes, FailsAs}
use Rattle.oxc_sourcemap_plan.proofs.Realizing.{join_laws, join_gives, join_unsorted, join_error}
use Rattle.oxc_sourcemap_plan.proofs.Parts.{from_err}
use Rattle.oxc_sourcemap_plan.proofs.plan.join.Goals as goal

pub returns-in_err-join_owned_parts-clause-error : goal.returns-in_err-join_owned_parts-clause-error
returns-in_err-join_owned_parts-clause-error c =
    let law = c.dropping_harmless.ensures in
    let laws = join_laws law.tests_agree law.joins_up_to_repeats law.decoded_map_of_join law.in_range law.stands_for law.names law.tokens in
    from_err c.from_residual.result _ _ c.from_residual.ensures.1 (λ e h os k. subst (λ x. FailsAs x (join_outcome os)) (sym h)
    (join_error laws (owned_records c.args.maps.items) os k c.in_err-join_owned_parts.field-0.0 c.in_err-join_owned_parts.ensures.error))

pub returns-clause-map : goal.returns-clause-map
returns-clause-map c =
    let law = c.dropping_harmless.ensures in
    let laws = join_laws law.tests_agree law.joins_up_to_repeats law.decoded_map_of_join law.in_range law.stands_for law.names law.tokens in
    let is = c.in_ok-join_owned_parts.ensures.joined in
    let within = subst IsWithinLimits is c.in_ok-join_owned_parts.ensures.limits in
    IfOk-weaker c.check_sorted.result _ _ (λ m h os k. subst (λ x. Realizes x (join_outcome os)) (sym (h.0 ∙ is))
    (join_gives laws (owned_records c.args.maps.items) os k within (ap (λ (r : MapRecord). are_tokens_sorted r.tokens) (sym is) ∙ h.1))) c.check_sorted.ensures.map

pub returns-clause-error : goal.returns-clause-error
returns-clause-error c =
    let law = c.dropping_harmless.ensures in
    let laws = join_laws law.tests_agree law.joins_up_to_repeats law.decoded_map_of_join law.in_range law.stands_for law.names law.tokens in
    let is = c.in_ok-join_owned_parts.ensures.joined in
    IfErr-weaker c.check_sorted.result _ _ (λ e h os k. subst (λ x. FailsAs x (join_outcome os)) (sym h.0)
    (join_unsorted laws (owned_records c.args.maps.items) os k (ap (λ (r : MapRecord). are_tokens_sorted r.tokens) (sym is) ∙ h.1))) c.check_sorted.ensures.error
