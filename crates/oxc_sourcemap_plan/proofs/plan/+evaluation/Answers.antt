use Rattle.std.proofs.Common.{◌≡◌, rules, refl, sym, subst, arith}
use Rattle.std.proofs.lemmas.List.{take_all}
use Rattle.std.proofs.lemmas.Grind.{common_steps}
use Rattle.std.proofs.lemmas.Result.{IfOk-weaker, IfErr-weaker}
use Rattle.oxc_sourcemap_join.specs.Joined.{position, at_line, at_lines, at_positions}
use Rattle.oxc_sourcemap_join.specs.Joined.{owned_records}
use Rattle.oxc_sourcemap_parts.specs.Views.{record_of_parts}
use Rattle.oxc_sourcemap_steps.specs.Inputs.{owned_input_records}
use Rattle.oxc_sourcemap_plan.specs.declared.fault.PlanFault.{PlanFault}
use Rattle.oxc_sourcemap_plan.specs.Depth.{depth}
use Rattle.oxc_sourcemap_plan.specs.Meaning.{by_path}
use Rattle.oxc_sourcemap_plan.specs.Outcome.{Outcome, outcome_of, outcomes, join_outcome}
use Rattle.oxc_sourcemap_plan.specs.Outcome.{composition_outcome, remap_outcome, input_outcomes}
use Rattle.oxc_sourcemap_plan.specs.Outcome.{simplified_outcome, rewrite_outcome, root_outcome}
use Rattle.oxc_sourcemap_plan.specs.PlanPlaces.{IsTold}
use Rattle.oxc_sourcemap_plan.specs.Realizes.{Realizes, FailsAs, AllRealize, InputsRealize}
use Rattle.oxc_sourcemap_plan.proofs.Plans.{depth_join, depth_join_at, outcome_parts}
use Rattle.oxc_sourcemap_plan.proofs.Plans.{outcome_parts_at, depth_remap, outcome_inputs}
use Rattle.oxc_sourcemap_plan.proofs.Realizing.{second_fails}
use Rattle.oxc_sourcemap_plan.proofs.Remapping.{remapped_fails}
use Rattle.oxc_sourcemap_plan.proofs.Simplifying.{simplified_fails}
use Rattle.oxc_sourcemap_plan.proofs.Parts.{from_err, more_owned, part_error, part_below_deepest}
use Rattle.oxc_sourcemap_plan.proofs.Parts.{at_its_line, at_its_position, more_inputs, input_error}
use Rattle.oxc_sourcemap_plan.proofs.Told.{told_on, step_told, only_part, joined_part}
use Rattle.oxc_sourcemap_plan.proofs.Told.{input_part, first_part, second_part, remapped_part}
use Rattle.oxc_sourcemap_plan.proofs.Told.{simplified_part, rewritten_means}
use Rattle.oxc_sourcemap_plan.proofs.Told.{rooted_means, simplified_means, composed_means}
use Rattle.oxc_sourcemap_plan.proofs.Told.{joined_means, remapped_means}
use Rattle.oxc_sourcemap_plan.proofs.plan.+evaluation.Goals as goal

pub evaluate_part-evaluate_join-requires : goal.evaluate_part-evaluate_join-requires
evaluate_part-evaluate_join-requires t c = grind (arith, common_steps, depth_join c.in-Join.parts)

pub evaluate_part-evaluate_join_at-requires : goal.evaluate_part-evaluate_join_at-requires
evaluate_part-evaluate_join_at-requires t c = grind (arith, common_steps, depth_join_at c.in-JoinAt.parts)

pub evaluate_part-returns-in-Join-clause-map : goal.evaluate_part-returns-in-Join-clause-map
evaluate_part-returns-in-Join-clause-map t c =
    let o = outcome_parts c.args.plan.now c.in-Join.parts c.as_slice.result.now c.in-Join.is c.as_slice.ensures.value in
    IfOk-weaker c.evaluate_join.result _ _ (λ m g. subst (Realizes (record_of_parts m)) (sym o) g) c.evaluate_join.ensures.map

pub evaluate_part-returns-in-Join-clause-error : goal.evaluate_part-returns-in-Join-clause-error
evaluate_part-returns-in-Join-clause-error t c =
    let o = outcome_parts c.args.plan.now c.in-Join.parts c.as_slice.result.now c.in-Join.is c.as_slice.ensures.value in
    IfErr-weaker c.evaluate_join.result _ _ (λ f g. subst (FailsAs f.error) (sym o) g) c.evaluate_join.ensures.error

pub evaluate_part-returns-in-JoinAt-clause-map : goal.evaluate_part-returns-in-JoinAt-clause-map
evaluate_part-returns-in-JoinAt-clause-map t c =
    let o = outcome_parts_at c.args.plan.now c.in-JoinAt.parts c.as_slice-in-JoinAt.result.now c.in-JoinAt.is c.as_slice-in-JoinAt.ensures.value in
    IfOk-weaker c.evaluate_join_at.result _ _ (λ m g. subst (Realizes (record_of_parts m)) (sym o) g) c.evaluate_join_at.ensures.map

pub evaluate_part-returns-in-JoinAt-clause-error : goal.evaluate_part-returns-in-JoinAt-clause-error
evaluate_part-returns-in-JoinAt-clause-error t c =
    let o = outcome_parts_at c.args.plan.now c.in-JoinAt.parts c.as_slice-in-JoinAt.result.now c.in-JoinAt.is c.as_slice-in-JoinAt.ensures.value in
    IfErr-weaker c.evaluate_join_at.result _ _ (λ f g. subst (FailsAs f.error) (sym o) g) c.evaluate_join_at.ensures.error

pub evaluate_join-evaluate_part-requires : goal.evaluate_join-evaluate_part-requires
evaluate_join-evaluate_part-requires t c =
    grind (arith, common_steps, part_below_deepest (λ p. depth p.0) c.args.parts.now c.loop-part.part-index c.loop-part-item.result c.loop-part-test.true c.loop-part-item.is)

pub evaluate_join-returns-in_err-map-clause-error : goal.evaluate_join-returns-in_err-map-clause-error
evaluate_join-returns-in_err-map-clause-error t c =
    let parts = c.args.parts.now in
    let r = part_error at_its_line (owned_records c.loop-part.maps.items) parts c.loop-part.part-index c.loop-part-item.result c.in_err-map.field-0.0.error c.loop-part-test.true c.loop-part-item.is c.loop-part.invariant c.in_err-map.ensures.error in
    from_err c.from_residual.result _ _ c.from_residual.ensures.1 (λ f h. subst (λ (f : PlanFault). FailsAs f.error (join_outcome (outcomes (at_lines parts)))) (sym h) r)

pub evaluate_join-loop-part-preserved : goal.evaluate_join-loop-part-preserved
evaluate_join-loop-part-preserved t c =
    let parts = c.args.parts.now in
    let i = c.loop-part.part-index in
    more_owned at_its_line c.loop-part.maps.items parts i (c.in_ok-map.map, at_line c.loop-part-item.result.1) c.loop-part-item.result c.push.new.self.items c.in_ok-push.ensures.items
    c.loop-part-test.true c.loop-part-item.is c.loop-part.invariant c.in_ok-map.ensures.map refl

pub evaluate_join_at-evaluate_part-requires : goal.evaluate_join_at-evaluate_part-requires
evaluate_join_at-evaluate_part-requires t c =
    grind (arith, common_steps, part_below_deepest (λ p. depth p.0) c.args.parts.now c.loop-part.part-index c.loop-part-item.result c.loop-part-test.true c.loop-part-item.is)

pub evaluate_join_at-returns-in_err-map-clause-error : goal.evaluate_join_at-returns-in_err-map-clause-error
evaluate_join_at-returns-in_err-map-clause-error t c =
    let parts = c.args.parts.now in
    let r = part_error at_its_position (owned_records c.loop-part.maps.items) parts c.loop-part.part-index c.loop-part-item.result c.in_err-map.field-0.0.error c.loop-part-test.true c.loop-part-item.is c.loop-part.invariant c.in_err-map.ensures.error in
    from_err c.from_residual.result _ _ c.from_residual.ensures.1 (λ f h. subst (λ (f : PlanFault). FailsAs f.error (join_outcome (outcomes (at_positions parts)))) (sym h) r)

pub evaluate_join_at-loop-part-preserved : goal.evaluate_join_at-loop-part-preserved
evaluate_join_at-loop-part-preserved t c =
    let parts = c.args.parts.now in
    let i = c.loop-part.part-index in
    more_owned at_its_position c.loop-part.maps.items parts i (c.in_ok-map.map, position c.loop-part-item.result.1 c.loop-part-item.result.2) c.loop-part-item.result c.push.new.self.items c.in_ok-push.ensures.items
    c.loop-part-test.true c.loop-part-item.is c.loop-part.invariant c.in_ok-map.ensures.map refl

pub evaluate_simplification-returns-in_err-map-clause-error : goal.evaluate_simplification-returns-in_err-map-clause-error
evaluate_simplification-returns-in_err-map-clause-error t c =
    let part = outcome_of c.args.part.now in
    from_err c.from_residual.result _ _ c.from_residual.ensures.1
    (λ f h. subst (λ (f : PlanFault). FailsAs f.error (simplified_outcome part)) (sym h) (simplified_fails part c.in_err-map.field-0.0.error c.in_err-map.ensures.error))

pub evaluate_part-evaluate_remapping-requires : goal.evaluate_part-evaluate_remapping-requires
evaluate_part-evaluate_remapping-requires t c = grind (arith, common_steps, depth_remap c.in-Remap.first c.in-Remap.inputs)

pub evaluate_part-returns-in-Remap-clause-map : goal.evaluate_part-returns-in-Remap-clause-map
evaluate_part-returns-in-Remap-clause-map t c =
    let first : c.deref-in-Remap.result.now ≡ c.in-Remap.first.value = search rules in
    let o = outcome_inputs c.args.plan.now c.deref-in-Remap.result.now c.in-Remap.first c.in-Remap.inputs c.as_slice-in-Remap.result.now c.in-Remap.is first c.as_slice-in-Remap.ensures.value in
    IfOk-weaker c.evaluate_remapping.result _ _ (λ m g. subst (Realizes (record_of_parts m)) (sym o) g) c.evaluate_remapping.ensures.map

pub evaluate_part-returns-in-Remap-clause-error : goal.evaluate_part-returns-in-Remap-clause-error
evaluate_part-returns-in-Remap-clause-error t c =
    let first : c.deref-in-Remap.result.now ≡ c.in-Remap.first.value = search rules in
    let o = outcome_inputs c.args.plan.now c.deref-in-Remap.result.now c.in-Remap.first c.in-Remap.inputs c.as_slice-in-Remap.result.now c.in-Remap.is first c.as_slice-in-Remap.ensures.value in
    IfErr-weaker c.evaluate_remapping.result _ _ (λ f g. subst (FailsAs f.error) (sym o) g) c.evaluate_remapping.ensures.error

pub evaluate_remapping-evaluate_part-requires-in-loop-path : goal.evaluate_remapping-evaluate_part-requires-in-loop-path
evaluate_remapping-evaluate_part-requires-in-loop-path t c =
    grind (arith, common_steps, part_below_deepest (λ p. depth p.1) c.args.inputs.now c.loop-path.path-index c.loop-path-item.result c.loop-path-test.true c.loop-path-item.is)

pub evaluate_remapping-returns-in_err-map-clause-error : goal.evaluate_remapping-returns-in_err-map-clause-error
evaluate_remapping-returns-in_err-map-clause-error t c =
    let first = outcome_of c.args.first.now in
    let os = input_outcomes (by_path c.args.inputs.now) in
    from_err c.from_residual.result _ _ c.from_residual.ensures.1
    (λ f h. subst (λ (f : PlanFault). FailsAs f.error (remap_outcome first os)) (sym h) (remapped_fails first os c.in_err-map.field-0.0.error c.in_err-map.ensures.error))

pub evaluate_remapping-returns-in_err-input-clause-error : goal.evaluate_remapping-returns-in_err-input-clause-error
evaluate_remapping-returns-in_err-input-clause-error t c =
    let first = outcome_of c.args.first.now in
    let inputs = c.args.inputs.now in
    let r = input_error (record_of_parts c.in_ok-map.map) first (owned_input_records c.loop-path.maps.items) inputs c.loop-path.path-index c.loop-path-item.result c.in_err-input.field-0.0.error c.loop-path-test.true c.loop-path-item.is c.in_ok-map.ensures.map c.loop-path.invariant c.in_err-input.ensures.error in
    from_err c.from_residual-in_err-input.result _ _ c.from_residual-in_err-input.ensures.1 (λ f h. subst (λ (f : PlanFault). FailsAs f.error (remap_outcome first (input_outcomes (by_path inputs)))) (sym h) r)

pub evaluate_remapping-loop-path-preserved : goal.evaluate_remapping-loop-path-preserved
evaluate_remapping-loop-path-preserved t c =
    let inputs = c.args.inputs.now in
    let i = c.loop-path.path-index in
    more_inputs c.loop-path.maps.items inputs i (c.loop-path-item.result.0, c.in_ok-input.input) c.loop-path-item.result c.push.new.self.items c.in_ok-push.ensures.items c.loop-path-test.true c.loop-path-item.is c.loop-path.invariant refl
    c.in_ok-input.ensures.map

pub evaluate_part-returns-in-Join-clause-told : goal.evaluate_part-returns-in-Join-clause-told
evaluate_part-returns-in-Join-clause-told t c =
    let o = outcome_parts c.args.plan.now c.in-Join.parts c.as_slice.result.now c.in-Join.is c.as_slice.ensures.value in
    IfErr-weaker c.evaluate_join.result _ _ (λ f g. subst (λ (o : Outcome). IsTold o f) (sym o) g) c.evaluate_join.ensures.told

pub evaluate_part-returns-in-JoinAt-clause-told : goal.evaluate_part-returns-in-JoinAt-clause-told
evaluate_part-returns-in-JoinAt-clause-told t c =
    let o = outcome_parts_at c.args.plan.now c.in-JoinAt.parts c.as_slice-in-JoinAt.result.now c.in-JoinAt.is c.as_slice-in-JoinAt.ensures.value in
    IfErr-weaker c.evaluate_join_at.result _ _ (λ f g. subst (λ (o : Outcome). IsTold o f) (sym o) g) c.evaluate_join_at.ensures.told

pub evaluate_part-returns-in-Remap-clause-told : goal.evaluate_part-returns-in-Remap-clause-told
evaluate_part-returns-in-Remap-clause-told t c =
    let first : c.deref-in-Remap.result.now ≡ c.in-Remap.first.value = search rules in
    let o = outcome_inputs c.args.plan.now c.deref-in-Remap.result.now c.in-Remap.first c.in-Remap.inputs c.as_slice-in-Remap.result.now c.in-Remap.is first c.as_slice-in-Remap.ensures.value in
    IfErr-weaker c.evaluate_remapping.result _ _ (λ f g. subst (λ (o : Outcome). IsTold o f) (sym o) g) c.evaluate_remapping.ensures.told

pub evaluate_rewrite-returns-in_err-map-clause-told : goal.evaluate_rewrite-returns-in_err-map-clause-told
evaluate_rewrite-returns-in_err-map-clause-told t c =
    let part = outcome_of c.args.part.now in
    told_on part (rewrite_outcome part) c.from_residual.result c.in_err-map.field-0.0 c.from_residual.ensures.1 (only_part part (rewrite_outcome part) refl (λ w. w)) c.in_err-map.ensures.told

pub evaluate_rewrite-returns-in_err-rewrite-clause-error : goal.evaluate_rewrite-returns-in_err-rewrite-clause-error
evaluate_rewrite-returns-in_err-rewrite-clause-error t c =
    from_err c.from_residual-in_err-rewrite.result _ _ c.from_residual-in_err-rewrite.ensures.1
    (λ f h. subst (λ (f : PlanFault). FailsAs f.error (rewrite_outcome (outcome_of c.args.part.now))) (sym h) (c.in_err-rewrite.ensures.error (outcome_of c.args.part.now) c.in_ok-map.ensures.map))

pub evaluate_rewrite-returns-in_err-rewrite-clause-told : goal.evaluate_rewrite-returns-in_err-rewrite-clause-told
evaluate_rewrite-returns-in_err-rewrite-clause-told t c =
    step_told (rewrite_outcome (outcome_of c.args.part.now)) c.from_residual-in_err-rewrite.result c.in_err-rewrite.field-0.0 c.from_residual-in_err-rewrite.ensures.1 (c.in_err-rewrite.ensures.error (outcome_of c.args.part.now) c.in_ok-map.ensures.map)
    (rewritten_means (record_of_parts c.in_ok-map.map) (outcome_of c.args.part.now) c.in_ok-map.ensures.map)

pub evaluate_root-returns-in_err-map-clause-told : goal.evaluate_root-returns-in_err-map-clause-told
evaluate_root-returns-in_err-map-clause-told t c =
    let part = outcome_of c.args.part.now in
    told_on part (root_outcome part) c.from_residual.result c.in_err-map.field-0.0 c.from_residual.ensures.1 (only_part part (root_outcome part) refl (λ w. w)) c.in_err-map.ensures.told

pub evaluate_root-returns-in_err-put_root-clause-error : goal.evaluate_root-returns-in_err-put_root-clause-error
evaluate_root-returns-in_err-put_root-clause-error t c =
    from_err c.from_residual-in_err-put_root.result _ _ c.from_residual-in_err-put_root.ensures.1
    (λ f h. subst (λ (f : PlanFault). FailsAs f.error (root_outcome (outcome_of c.args.part.now))) (sym h) (c.in_err-put_root.ensures.error (outcome_of c.args.part.now)))

pub evaluate_root-returns-in_err-put_root-clause-told : goal.evaluate_root-returns-in_err-put_root-clause-told
evaluate_root-returns-in_err-put_root-clause-told t c =
    step_told (root_outcome (outcome_of c.args.part.now)) c.from_residual-in_err-put_root.result c.in_err-put_root.field-0.0 c.from_residual-in_err-put_root.ensures.1 (c.in_err-put_root.ensures.error (outcome_of c.args.part.now))
    (rooted_means (record_of_parts c.in_ok-map.map) (outcome_of c.args.part.now) c.in_ok-map.ensures.map)

pub evaluate_simplification-returns-in_err-map-clause-told : goal.evaluate_simplification-returns-in_err-map-clause-told
evaluate_simplification-returns-in_err-map-clause-told t c =
    let part = outcome_of c.args.part.now in
    told_on part (simplified_outcome part) c.from_residual.result c.in_err-map.field-0.0 c.from_residual.ensures.1 (simplified_part part) c.in_err-map.ensures.told

pub evaluate_simplification-returns-in_err-simplify-clause-error : goal.evaluate_simplification-returns-in_err-simplify-clause-error
evaluate_simplification-returns-in_err-simplify-clause-error t c =
    from_err c.from_residual-in_err-simplify.result _ _ c.from_residual-in_err-simplify.ensures.1
    (λ f h. subst (λ (f : PlanFault). FailsAs f.error (simplified_outcome (outcome_of c.args.part.now))) (sym h) (c.in_err-simplify.ensures.error (outcome_of c.args.part.now) c.in_ok-map.ensures.map))

pub evaluate_simplification-returns-in_err-simplify-clause-told : goal.evaluate_simplification-returns-in_err-simplify-clause-told
evaluate_simplification-returns-in_err-simplify-clause-told t c =
    step_told (simplified_outcome (outcome_of c.args.part.now)) c.from_residual-in_err-simplify.result c.in_err-simplify.field-0.0 c.from_residual-in_err-simplify.ensures.1 (c.in_err-simplify.ensures.error (outcome_of c.args.part.now) c.in_ok-map.ensures.map)
    (simplified_means (record_of_parts c.in_ok-map.map) (outcome_of c.args.part.now) c.in_ok-map.ensures.map)

pub evaluate_join-returns-in_err-map-clause-told : goal.evaluate_join-returns-in_err-map-clause-told
evaluate_join-returns-in_err-map-clause-told t c =
    let parts = c.args.parts.now in
    told_on (outcome_of c.loop-part-item.result.0) (join_outcome (outcomes (at_lines parts))) c.from_residual.result c.in_err-map.field-0.0 c.from_residual.ensures.1
    (joined_part at_its_line (owned_records c.loop-part.maps.items) parts c.loop-part.part-index c.loop-part-item.result c.loop-part-test.true c.loop-part-item.is c.loop-part.invariant) c.in_err-map.ensures.told

pub evaluate_join-returns-in_err-join-clause-error : goal.evaluate_join-returns-in_err-join-clause-error
evaluate_join-returns-in_err-join-clause-error t c =
    let parts = c.args.parts.now in
    let all = subst (λ ps. AllRealize (owned_records c.loop-part.maps.items) (outcomes (at_lines ps))) (take_all c.loop-part.part-index parts (let f = c.loop-part-test.false in omega (arith, f))) c.loop-part.invariant in
    from_err c.from_residual-in_err-join.result _ _ c.from_residual-in_err-join.ensures.1
    (λ f h. subst (λ (f : PlanFault). FailsAs f.error (join_outcome (outcomes (at_lines parts)))) (sym h) (c.in_err-join.ensures.error (outcomes (at_lines parts)) all))

pub evaluate_join-returns-in_err-join-clause-told : goal.evaluate_join-returns-in_err-join-clause-told
evaluate_join-returns-in_err-join-clause-told t c =
    let parts = c.args.parts.now in
    let all = subst (λ ps. AllRealize (owned_records c.loop-part.maps.items) (outcomes (at_lines ps))) (take_all c.loop-part.part-index parts (let f = c.loop-part-test.false in omega (arith, f))) c.loop-part.invariant in
    let os = outcomes (at_lines parts) in
    step_told (join_outcome os) c.from_residual-in_err-join.result c.in_err-join.field-0.0 c.from_residual-in_err-join.ensures.1 (c.in_err-join.ensures.error os all)
    (joined_means (owned_records c.loop-part.maps.items) os all)

pub evaluate_join_at-returns-in_err-map-clause-told : goal.evaluate_join_at-returns-in_err-map-clause-told
evaluate_join_at-returns-in_err-map-clause-told t c =
    let parts = c.args.parts.now in
    told_on (outcome_of c.loop-part-item.result.0) (join_outcome (outcomes (at_positions parts))) c.from_residual.result c.in_err-map.field-0.0 c.from_residual.ensures.1
    (joined_part at_its_position (owned_records c.loop-part.maps.items) parts c.loop-part.part-index c.loop-part-item.result c.loop-part-test.true c.loop-part-item.is c.loop-part.invariant) c.in_err-map.ensures.told

pub evaluate_join_at-returns-in_err-join-clause-error : goal.evaluate_join_at-returns-in_err-join-clause-error
evaluate_join_at-returns-in_err-join-clause-error t c =
    let parts = c.args.parts.now in
    let all = subst (λ ps. AllRealize (owned_records c.loop-part.maps.items) (outcomes (at_positions ps))) (take_all c.loop-part.part-index parts (let f = c.loop-part-test.false in omega (arith, f))) c.loop-part.invariant in
    from_err c.from_residual-in_err-join.result _ _ c.from_residual-in_err-join.ensures.1
    (λ f h. subst (λ (f : PlanFault). FailsAs f.error (join_outcome (outcomes (at_positions parts)))) (sym h) (c.in_err-join.ensures.error (outcomes (at_positions parts)) all))

pub evaluate_join_at-returns-in_err-join-clause-told : goal.evaluate_join_at-returns-in_err-join-clause-told
evaluate_join_at-returns-in_err-join-clause-told t c =
    let parts = c.args.parts.now in
    let all = subst (λ ps. AllRealize (owned_records c.loop-part.maps.items) (outcomes (at_positions ps))) (take_all c.loop-part.part-index parts (let f = c.loop-part-test.false in omega (arith, f))) c.loop-part.invariant in
    let os = outcomes (at_positions parts) in
    step_told (join_outcome os) c.from_residual-in_err-join.result c.in_err-join.field-0.0 c.from_residual-in_err-join.ensures.1 (c.in_err-join.ensures.error os all)
    (joined_means (owned_records c.loop-part.maps.items) os all)

pub evaluate_composition-returns-in_err-first-clause-told : goal.evaluate_composition-returns-in_err-first-clause-told
evaluate_composition-returns-in_err-first-clause-told t c =
    let first = outcome_of c.args.first.now in
    let second = outcome_of c.args.second.now in
    told_on first (composition_outcome first second) c.from_residual.result c.in_err-first.field-0.0 c.from_residual.ensures.1 (first_part first second) c.in_err-first.ensures.told

pub evaluate_composition-returns-in_err-second-clause-error : goal.evaluate_composition-returns-in_err-second-clause-error
evaluate_composition-returns-in_err-second-clause-error t c =
    let first = outcome_of c.args.first.now in
    let second = outcome_of c.args.second.now in
    from_err c.from_residual-in_err-second.result _ _ c.from_residual-in_err-second.ensures.1
    (λ f h. subst (λ (f : PlanFault). FailsAs f.error (composition_outcome first second)) (sym h)
    (second_fails (record_of_parts c.in_ok-first.first) first second c.in_err-second.field-0.0.error c.in_ok-first.ensures.map c.in_err-second.ensures.error))

pub evaluate_composition-returns-in_err-second-clause-told : goal.evaluate_composition-returns-in_err-second-clause-told
evaluate_composition-returns-in_err-second-clause-told t c =
    let first = outcome_of c.args.first.now in
    let second = outcome_of c.args.second.now in
    told_on second (composition_outcome first second) c.from_residual-in_err-second.result c.in_err-second.field-0.0 c.from_residual-in_err-second.ensures.1
    (second_part (record_of_parts c.in_ok-first.first) first second c.in_ok-first.ensures.map) c.in_err-second.ensures.told

pub evaluate_composition-returns-in_err-compose-clause-error : goal.evaluate_composition-returns-in_err-compose-clause-error
evaluate_composition-returns-in_err-compose-clause-error t c =
    let first = outcome_of c.args.first.now in
    let second = outcome_of c.args.second.now in
    from_err c.from_residual-in_err-compose.result _ _ c.from_residual-in_err-compose.ensures.1
    (λ f h. subst (λ (f : PlanFault). FailsAs f.error (composition_outcome first second)) (sym h) (c.in_err-compose.ensures.error first second c.in_ok-first.ensures.map c.in_ok-second.ensures.map))

pub evaluate_composition-returns-in_err-compose-clause-told : goal.evaluate_composition-returns-in_err-compose-clause-told
evaluate_composition-returns-in_err-compose-clause-told t c =
    let first = outcome_of c.args.first.now in
    let second = outcome_of c.args.second.now in
    step_told (composition_outcome first second) c.from_residual-in_err-compose.result c.in_err-compose.field-0.0 c.from_residual-in_err-compose.ensures.1
    (c.in_err-compose.ensures.error first second c.in_ok-first.ensures.map c.in_ok-second.ensures.map)
    (composed_means (record_of_parts c.in_ok-first.first) (record_of_parts c.in_ok-second.second) first second c.in_ok-first.ensures.map c.in_ok-second.ensures.map)

pub evaluate_remapping-returns-in_err-map-clause-told : goal.evaluate_remapping-returns-in_err-map-clause-told
evaluate_remapping-returns-in_err-map-clause-told t c =
    let first = outcome_of c.args.first.now in
    let os = input_outcomes (by_path c.args.inputs.now) in
    told_on first (remap_outcome first os) c.from_residual.result c.in_err-map.field-0.0 c.from_residual.ensures.1 (remapped_part first os) c.in_err-map.ensures.told

pub evaluate_remapping-returns-in_err-input-clause-told : goal.evaluate_remapping-returns-in_err-input-clause-told
evaluate_remapping-returns-in_err-input-clause-told t c =
    let first = outcome_of c.args.first.now in
    let inputs = c.args.inputs.now in
    told_on (outcome_of c.loop-path-item.result.1) (remap_outcome first (input_outcomes (by_path inputs))) c.from_residual-in_err-input.result c.in_err-input.field-0.0 c.from_residual-in_err-input.ensures.1
    (input_part first (record_of_parts c.in_ok-map.map) (owned_input_records c.loop-path.maps.items) inputs c.loop-path.path-index c.loop-path-item.result c.loop-path-test.true c.loop-path-item.is
    c.in_ok-map.ensures.map c.loop-path.invariant) c.in_err-input.ensures.told

pub evaluate_remapping-returns-clause-map : goal.evaluate_remapping-returns-clause-map
evaluate_remapping-returns-clause-map t c =
    let first = outcome_of c.args.first.now in
    let inputs = c.args.inputs.now in
    let all = subst (λ xs. InputsRealize (owned_input_records c.loop-path.maps.items) (input_outcomes (by_path xs))) (take_all c.loop-path.path-index inputs (let f = c.loop-path-test.false in omega (arith, f))) c.loop-path.invariant in
    let os = input_outcomes (by_path inputs) in
    c.in_ok-remap.ensures.map first os c.in_ok-map.ensures.map all

pub evaluate_remapping-returns-in_err-remap-clause-error : goal.evaluate_remapping-returns-in_err-remap-clause-error
evaluate_remapping-returns-in_err-remap-clause-error t c =
    let first = outcome_of c.args.first.now in
    let inputs = c.args.inputs.now in
    let all = subst (λ xs. InputsRealize (owned_input_records c.loop-path.maps.items) (input_outcomes (by_path xs))) (take_all c.loop-path.path-index inputs (let f = c.loop-path-test.false in omega (arith, f))) c.loop-path.invariant in
    let os = input_outcomes (by_path inputs) in
    from_err c.from_residual-in_err-remap.result _ _ c.from_residual-in_err-remap.ensures.1
    (λ f h. subst (λ (f : PlanFault). FailsAs f.error (remap_outcome first os)) (sym h) (c.in_err-remap.ensures.error first os c.in_ok-map.ensures.map all))

pub evaluate_remapping-returns-in_err-remap-clause-told : goal.evaluate_remapping-returns-in_err-remap-clause-told
evaluate_remapping-returns-in_err-remap-clause-told t c =
    let first = outcome_of c.args.first.now in
    let inputs = c.args.inputs.now in
    let all = subst (λ xs. InputsRealize (owned_input_records c.loop-path.maps.items) (input_outcomes (by_path xs))) (take_all c.loop-path.path-index inputs (let f = c.loop-path-test.false in omega (arith, f))) c.loop-path.invariant in
    let os = input_outcomes (by_path inputs) in
    step_told (remap_outcome first os) c.from_residual-in_err-remap.result c.in_err-remap.field-0.0 c.from_residual-in_err-remap.ensures.1 (c.in_err-remap.ensures.error first os c.in_ok-map.ensures.map all)
    (remapped_means (record_of_parts c.in_ok-map.map) (owned_input_records c.loop-path.maps.items) first os c.in_ok-map.ensures.map all)
