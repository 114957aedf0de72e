use Rattle.std.proofs.Common.{◌≡◌, ℕ, ◌<◌, ◌≤◌, length, false}
use Rattle.oxc_sourcemap_scopes.specs.Trees.{rank, span_at, contains, start_key, key}
use Rattle.oxc_sourcemap_scopes.proofs.trees.innermost_at.Given as goal

-- no span past the one that is looked at contains the place, and that one starts by it
abbrev pub invariant-loop-next : goal.invariant-loop-next
invariant-loop-next l = record {
  within : rank l.next ≤ length l.spans;
  past : (j : ℕ) → j < length l.spans → rank l.next ≤ j → contains l.source l.place (span_at l.spans j) ≡ false;
  by : (j : ℕ) → j < rank l.next → start_key (span_at l.spans j) ≤ key l.source l.place;
}

abbrev pub decreases-loop-next : goal.decreases-loop-next
decreases-loop-next l = rank l.next
