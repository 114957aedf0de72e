use Rattle.std.proofs.Common.{◌≡◌, ◌≤◌, ◌-◌, ◌+◌, map, string_bytes}
use Rattle.oxc_sourcemap_plan.specs.Depth.{depth, deepest}
use Rattle.oxc_sourcemap_plan.specs.Meaning.{by_path}
use Rattle.oxc_sourcemap_join.specs.Joined.{at_positions}
use Rattle.oxc_sourcemap_plan.specs.PlanArguments.{parsed_beginning, parsed_join_part}
use Rattle.oxc_sourcemap_plan.specs.PlanArguments.{parsed_input_part}
use Rattle.oxc_sourcemap_plan.specs.PlanArguments.{parsed_items, parsed_part}
use Rattle.oxc_sourcemap_plan.specs.Outcome.{outcomes, input_outcomes}
use Rattle.oxc_sourcemap_plan.proofs.PlanArguments.{left_after}
use Rattle.oxc_sourcemap_plan.proofs.plan_arguments.+part.Given as goal

abbrev pub decreases-read_part : goal.decreases-read_part
decreases-read_part l = l.room + l.room + l.room

abbrev pub decreases-read_join : goal.decreases-read_join
decreases-read_join l = l.room + l.room + l.room + 1

abbrev pub decreases-read_remap_inputs : goal.decreases-read_remap_inputs
decreases-read_remap_inputs l = l.room + l.room + l.room + 1

abbrev pub decreases-read_remapping : goal.decreases-read_remapping
decreases-read_remapping l = l.room + l.room + l.room + 2

abbrev pub invariant-read_join-loop-i : goal.invariant-read_join-loop-i
invariant-read_join-loop-i l =
    let item = parsed_join_part (parsed_part (map (λ text. text.now) l.inputs) l.room) (parsed_beginning l.has_column) in
    (parsed_items item l.count (map string_bytes l.initial.rest) ≡ left_after item (outcomes (at_positions l.parts.items)) (l.count - l.i) (map string_bytes l.rest))
    × (deepest (map (λ p. depth p.0) l.parts.items) ≤ l.room)

abbrev pub invariant-read_remap_inputs-loop-i : goal.invariant-read_remap_inputs-loop-i
invariant-read_remap_inputs-loop-i l =
    let item = parsed_input_part (parsed_part (map (λ text. text.now) l.inputs) l.room) in
    (parsed_items item l.count (map string_bytes l.initial.rest) ≡ left_after item (input_outcomes (by_path l.parts.items)) (l.count - l.i) (map string_bytes l.rest))
    × (deepest (map (λ p. depth p.1) l.parts.items) ≤ l.room)
