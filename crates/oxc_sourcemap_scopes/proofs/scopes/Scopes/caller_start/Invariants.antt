use Rattle.std.proofs.Common.{◌≡◌, ◌≤◌, length, slice_get, Some}
use Rattle.oxc_sourcemap_scopes.specs.Trees.{rank}
use Rattle.oxc_sourcemap_scopes.specs.Asking.{caller_starts}
use Rattle.oxc_sourcemap_scopes.proofs.scopes.Scopes.caller_start.Given as goal

-- the calls that were passed are not the one that is looked for
abbrev pub invariant-loop-next : goal.invariant-loop-next
invariant-loop-next l = record {
  within : rank l.next ≤ length l.self.ranges;
  same : slice_get (caller_starts l.self l.next) l.left ≡ slice_get (caller_starts l.self (Some l.range)) l.caller;
}

abbrev pub decreases-loop-next : goal.decreases-loop-next
decreases-loop-next l = rank l.next
