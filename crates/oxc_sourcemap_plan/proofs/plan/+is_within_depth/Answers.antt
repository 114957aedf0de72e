use Rattle.std.proofs.Common.{arith}
use Rattle.std.proofs.lemmas.Grind.{common_steps}
use Rattle.oxc_sourcemap_plan.proofs.Plans.{depth_join, depth_join_at, depth_remap}
use Rattle.oxc_sourcemap_plan.proofs.plan.+is_within_depth.Goals as goal

pub returns-after-loop-part : goal.returns-after-loop-part
returns-after-loop-part t c = grind (arith, common_steps, depth_join c.in-Join.parts)

pub returns-after-loop-piece : goal.returns-after-loop-piece
returns-after-loop-piece t c = grind (arith, common_steps, depth_join_at c.in-JoinAt.parts)

pub returns-then-not-is_within_depth : goal.returns-then-not-is_within_depth
returns-then-not-is_within_depth t c = grind (arith, common_steps, depth_join c.in-Join.parts)

pub returns-then-not-is_within_depth-2 : goal.returns-then-not-is_within_depth-2
returns-then-not-is_within_depth-2 t c = grind (arith, common_steps, depth_join_at c.in-JoinAt.parts)

pub returns-after-loop-input : goal.returns-after-loop-input
returns-after-loop-input t c = grind (arith, common_steps, depth_remap c.in-Remap.first c.in-Remap.inputs)

pub returns-then-not-is_within_depth-3 : goal.returns-then-not-is_within_depth-3
returns-then-not-is_within_depth-3 t c = grind (arith, common_steps, depth_remap c.in-Remap.first c.in-Remap.inputs)
