use Rattle.std.proofs.Common.{◌<◌, ◌↔◌, map, drop}
use Rattle.oxc_sourcemap_plan.specs.Depth.{depth, deepest}
use Rattle.oxc_sourcemap_plan.proofs.plan.+is_within_depth.Given as goal

abbrev pub decreases-is_within_depth : goal.decreases-is_within_depth
decreases-is_within_depth l = goal.size-is_within_depth l

abbrev pub invariant-loop-part : goal.invariant-loop-part
invariant-loop-part l = (deepest (map (λ p. depth p.0) l.part-items) < l.room) ↔ (deepest (map (λ p. depth p.0) (drop l.part-index l.part-items)) < l.room)

abbrev pub invariant-loop-piece : goal.invariant-loop-piece
invariant-loop-piece l = (deepest (map (λ p. depth p.0) l.piece-items) < l.room) ↔ (deepest (map (λ p. depth p.0) (drop l.piece-index l.piece-items)) < l.room)

abbrev pub invariant-loop-input : goal.invariant-loop-input
invariant-loop-input l = (deepest (map (λ p. depth p.1) l.input-items) < l.room) ↔ (deepest (map (λ p. depth p.1) (drop l.input-index l.input-items)) < l.room)
