use Rattle.std.proofs.Common.{◌≡◌, ◌≤◌, ◌++◌, length}
use Rattle.oxc_sourcemap_scopes.specs.Trees.{rank}
use Rattle.oxc_sourcemap_scopes.specs.Asking.{chain_of}
use Rattle.oxc_sourcemap_scopes.proofs.scopes.Scopes.chain.Given as goal

-- the entries so far and those further out are all
abbrev pub invariant-loop-next : goal.invariant-loop-next
invariant-loop-next l = record {
  within : rank l.next ≤ length l.self.scopes;
  same : l.chain.items ++ chain_of l.self l.next l.range ≡ chain_of l.self l.fn.scope l.range;
}

abbrev pub decreases-loop-next : goal.decreases-loop-next
decreases-loop-next l = rank l.next
