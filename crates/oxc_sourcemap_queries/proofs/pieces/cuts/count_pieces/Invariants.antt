use Rattle.std.proofs.Common.{ℕ, ◌+◌, ◌-◌, ◌≤◌, length}
use Rattle.oxc_sourcemap_queries.specs.Cuts.{AreLeft}
use Rattle.oxc_sourcemap_queries.proofs.pieces.cuts.count_pieces.Given as goal

abbrev pub invariant-loop-place : goal.invariant-loop-place
invariant-loop-place l = record {
  within : l.next ≤ length l.tokens;
  counted : l.count + l.fn.place ≤ l.place;
  left : (n : ℕ) → AreLeft l.tokens l.next l.place l.end n → AreLeft l.tokens l.fn.next l.fn.place l.end (l.count + n);
}

abbrev pub decreases-loop-place : goal.decreases-loop-place
decreases-loop-place l = l.end - l.place
