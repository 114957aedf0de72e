use Rattle.std.proofs.Common.{◌≡◌, ◌≤◌, length}
use Rattle.oxc_sourcemap_scopes.specs.Trees.{rank}
use Rattle.oxc_sourcemap_scopes.specs.Asking.{code_of, around}
use Rattle.oxc_sourcemap_scopes.proofs.scopes.Scopes.code_of.Given as goal

-- the ranges that were passed are the code of other scopes
abbrev pub invariant-loop-next : goal.invariant-loop-next
invariant-loop-next l = record {
  within : rank l.next ≤ length l.self.ranges;
  same : code_of l.self.range_infos l.scope (around l.self.ranges l.next) ≡ code_of l.self.range_infos l.scope (around l.self.ranges l.fn.range);
}

abbrev pub decreases-loop-next : goal.decreases-loop-next
decreases-loop-next l = rank l.next
