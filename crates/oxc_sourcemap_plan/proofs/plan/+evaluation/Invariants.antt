use Rattle.std.proofs.Common.{◌+◌, map, max, take}
use Rattle.oxc_sourcemap_join.specs.Joined.{at_lines, at_positions, owned_records}
use Rattle.oxc_sourcemap_steps.specs.Inputs.{owned_input_records}
use Rattle.oxc_sourcemap_plan.specs.Depth.{depth, deepest}
use Rattle.oxc_sourcemap_plan.specs.Meaning.{by_path}
use Rattle.oxc_sourcemap_plan.specs.Outcome.{outcomes, input_outcomes}
use Rattle.oxc_sourcemap_plan.specs.Realizes.{AllRealize, InputsRealize}
use Rattle.oxc_sourcemap_plan.proofs.plan.+evaluation.Given as goal

abbrev pub decreases-evaluate_part : goal.decreases-evaluate_part
decreases-evaluate_part l = depth l.plan.now + depth l.plan.now

abbrev pub decreases-evaluate_rewrite : goal.decreases-evaluate_rewrite
decreases-evaluate_rewrite l = depth l.part.now + depth l.part.now + 1

abbrev pub decreases-evaluate_root : goal.decreases-evaluate_root
decreases-evaluate_root l = depth l.part.now + depth l.part.now + 1

abbrev pub decreases-evaluate_simplification : goal.decreases-evaluate_simplification
decreases-evaluate_simplification l = depth l.part.now + depth l.part.now + 1

abbrev pub decreases-evaluate_join : goal.decreases-evaluate_join
decreases-evaluate_join l = deepest (map (λ p. depth p.0) l.parts.now) + deepest (map (λ p. depth p.0) l.parts.now) + 1

abbrev pub decreases-evaluate_join_at : goal.decreases-evaluate_join_at
decreases-evaluate_join_at l = deepest (map (λ p. depth p.0) l.parts.now) + deepest (map (λ p. depth p.0) l.parts.now) + 1

abbrev pub decreases-evaluate_composition : goal.decreases-evaluate_composition
decreases-evaluate_composition l = max (depth l.first.now) (depth l.second.now) + max (depth l.first.now) (depth l.second.now) + 1

abbrev pub decreases-evaluate_remapping : goal.decreases-evaluate_remapping
decreases-evaluate_remapping l =
    max (depth l.first.now) (deepest (map (λ p. depth p.1) l.inputs.now)) + max (depth l.first.now) (deepest (map (λ p. depth p.1) l.inputs.now)) + 1

abbrev pub invariant-evaluate_join-loop-part : goal.invariant-evaluate_join-loop-part
invariant-evaluate_join-loop-part l = AllRealize (owned_records l.maps.items) (outcomes (at_lines (take l.part-index l.parts)))

abbrev pub invariant-evaluate_join_at-loop-part : goal.invariant-evaluate_join_at-loop-part
invariant-evaluate_join_at-loop-part l = AllRealize (owned_records l.maps.items) (outcomes (at_positions (take l.part-index l.parts)))

abbrev pub invariant-evaluate_remapping-loop-path : goal.invariant-evaluate_remapping-loop-path
invariant-evaluate_remapping-loop-path l = InputsRealize (owned_input_records l.maps.items) (input_outcomes (by_path (take l.path-index l.inputs)))
