use Rattle.std.proofs.Common.{◌≡◌, ◌≤◌, length}
use Rattle.oxc_sourcemap_scopes.specs.Trees.{rank}
use Rattle.oxc_sourcemap_scopes.specs.Asking.{function_of}
use Rattle.oxc_sourcemap_scopes.proofs.frames.function_of.Given as goal

-- the scopes that were passed are no functions
abbrev pub invariant-loop-next : goal.invariant-loop-next
invariant-loop-next l = record {
  within : rank l.next ≤ length l.scopes;
  same : function_of l.scopes l.infos l.next ≡ function_of l.scopes l.infos l.fn.scope;
}

abbrev pub decreases-loop-next : goal.decreases-loop-next
decreases-loop-next l = rank l.next
