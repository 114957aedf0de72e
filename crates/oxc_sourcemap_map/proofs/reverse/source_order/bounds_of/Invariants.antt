use Rattle.std.proofs.Common.{◌<◌, ◌≤◌, ℕ, get_or}
use Rattle.std.specs.List.{All}
use Rattle.oxc_sourcemap_map.proofs.reverse.source_order.bounds_of.Given as goal

abbrev pub invariant-loop-i : goal.invariant-loop-i
invariant-loop-i l = record {
  rise : l.least ≤ l.most;
  below : (n : ℕ) → All (λ i. i < n) l.indices → l.most < n;
  all : (k d : ℕ) → k < l.i-index → (l.least ≤ get_or l.indices k d) × (get_or l.indices k d ≤ l.most);
}
