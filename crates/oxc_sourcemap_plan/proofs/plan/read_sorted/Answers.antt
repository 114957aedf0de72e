use Rattle.std.proofs.Common.{subst, sym, refl}
use Rattle.oxc_sourcemap_parts.specs.Views.{record_of_parts}
use Rattle.oxc_sourcemap_plan.specs.Outcome.{sorted_outcome}
use Rattle.oxc_sourcemap_plan.specs.Realizes.{Realizes, FailsAs}
use Rattle.oxc_sourcemap_plan.proofs.Realizing.{join_laws}
use Rattle.oxc_sourcemap_plan.proofs.Sorting.{sorted_gives, sorted_error}
use Rattle.oxc_sourcemap_plan.proofs.Told.{text_told}
use Rattle.oxc_sourcemap_plan.proofs.plan.read_sorted.Goals as goal

pub returns-in-Err-clause-error : goal.returns-in-Err-clause-error
returns-in-Err-clause-error c =
    let law = c.dropping_harmless.ensures in
    let laws = join_laws law.tests_agree law.joins_up_to_repeats law.decoded_map_of_join law.in_range law.stands_for law.names law.tokens in
    subst (λ x. FailsAs x (sorted_outcome c.args.text.now)) (sym c.of_text.ensures.error)
    (sorted_error laws c.args.text.now c.in-Err.fault.error c.in-Err.ensures.map.1)

pub returns-in-Err-clause-told : goal.returns-in-Err-clause-told
returns-in-Err-clause-told c =
    text_told (sorted_outcome c.args.text.now) c.args.text c.in-Err.fault c.of_text.result refl c.of_text.ensures.error c.of_text.ensures.at c.in-Err.ensures.map.1
    c.in-Err.ensures.place.1

pub returns-in_ok-sort-in-Ok-clause-map : goal.returns-in_ok-sort-in-Ok-clause-map
returns-in_ok-sort-in-Ok-clause-map c =
    let text = c.args.text.now in
    let law = c.dropping_harmless.ensures in
    let laws = join_laws law.tests_agree law.joins_up_to_repeats law.decoded_map_of_join law.in_range law.stands_for law.names law.tokens in
    subst (λ m. Realizes m (sorted_outcome text)) (sym c.in_ok-sort-in-Ok.ensures) (sorted_gives laws text (record_of_parts c.in-Ok.map) c.in-Ok.ensures.map.0)
