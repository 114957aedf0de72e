use Rattle.std.proofs.Common.{◌≡◌, ◌≤◌, length, Some}
use Rattle.oxc_sourcemap_scopes.specs.Trees.{rank}
use Rattle.oxc_sourcemap_scopes.specs.Asking.{callers_of, with_frames}
use Rattle.oxc_sourcemap_scopes.proofs.scopes.Scopes.push_callers.Given as goal

-- the frames so far and those further out are all
abbrev pub invariant-loop-next : goal.invariant-loop-next
invariant-loop-next l = record {
  within : rank l.next ≤ length l.self.ranges;
  same : with_frames l.frames.items (callers_of l.self l.next) ≡ with_frames l.fn.frames.items (callers_of l.self (Some l.range));
}

abbrev pub decreases-loop-next : goal.decreases-loop-next
decreases-loop-next l = rank l.next
