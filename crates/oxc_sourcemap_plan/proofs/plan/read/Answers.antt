use Rattle.std.proofs.Common.{subst, sym, refl}
use Rattle.oxc_sourcemap_parts.specs.Views.{record_of_parts}
use Rattle.oxc_sourcemap_json.proofs.WellRead.{read_map_sound}
use Rattle.oxc_sourcemap_plan.specs.declared.fault.PlanFault.{PlanFault}
use Rattle.oxc_sourcemap_plan.specs.Outcome.{read_outcome}
use Rattle.oxc_sourcemap_plan.specs.Realizes.{Realizes, FailsAs}
use Rattle.oxc_sourcemap_plan.proofs.Realizing.{join_laws}
use Rattle.oxc_sourcemap_plan.proofs.Reading.{read_gives, read_unsorted, read_error}
use Rattle.oxc_sourcemap_plan.proofs.Parts.{from_err}
use Rattle.oxc_sourcemap_plan.proofs.Told.{text_told}
use Rattle.oxc_sourcemap_plan.proofs.plan.read.Goals as goal

pub returns-in-Err-clause-error : goal.returns-in-Err-clause-error
returns-in-Err-clause-error c =
    let law = c.dropping_harmless.ensures in
    let laws = join_laws law.tests_agree law.joins_up_to_repeats law.decoded_map_of_join law.in_range law.stands_for law.names law.tokens in
    subst (λ x. FailsAs x (read_outcome c.args.text.now)) (sym c.of_text.ensures.error)
    (read_error laws c.args.text.now c.in-Err.fault.error c.in-Err.ensures.map.1)

pub returns-in-Err-clause-told : goal.returns-in-Err-clause-told
returns-in-Err-clause-told c =
    text_told (read_outcome c.args.text.now) c.args.text c.in-Err.fault c.of_text.result refl c.of_text.ensures.error c.of_text.ensures.at c.in-Err.ensures.map.1
    c.in-Err.ensures.place.1

pub returns-in_ok-check_sorted-in-Ok-clause-map : goal.returns-in_ok-check_sorted-in-Ok-clause-map
returns-in_ok-check_sorted-in-Ok-clause-map c =
    let text = c.args.text.now in
    let is = c.in-Ok.ensures.map.0 in
    let law = c.dropping_harmless.ensures in
    let laws = join_laws law.tests_agree law.joins_up_to_repeats law.decoded_map_of_join law.in_range law.stands_for law.names law.tokens in
    let r = record_of_parts c.in-Ok.map in
    let h = c.in_ok-check_sorted-in-Ok.ensures.map in
    subst (λ x. Realizes x (read_outcome text)) (sym h.0)
    (read_gives laws text r is (c.canonical_unique.ensures.read_is_in_bounds text r is) ((read_map_sound text r is).1 h.1) h.1)

pub returns-in_err-check_sorted-in-Ok-clause-error : goal.returns-in_err-check_sorted-in-Ok-clause-error
returns-in_err-check_sorted-in-Ok-clause-error c =
    let text = c.args.text.now in
    let law = c.dropping_harmless.ensures in
    let laws = join_laws law.tests_agree law.joins_up_to_repeats law.decoded_map_of_join law.in_range law.stands_for law.names law.tokens in
    let r = record_of_parts c.in-Ok.map in
    let h = c.in_err-check_sorted-in-Ok.ensures.error in
    from_err c.from_residual.result _ _ c.from_residual.ensures.1 (λ f is. subst (λ (f : PlanFault). FailsAs f.error (read_outcome text)) (sym is)
    (subst (λ x. FailsAs x (read_outcome text)) (sym h.0) (read_unsorted laws text r c.in-Ok.ensures.map.0 h.1)))
