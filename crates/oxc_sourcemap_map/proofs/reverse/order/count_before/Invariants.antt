use Rattle.std.proofs.Common.{◌≡◌, ◌≤◌, ◌<◌, ◌+◌, ℕ, get_or, length}
use Rattle.oxc_sourcemap_tokens.specs.Token.{TokenRecord}
use Rattle.oxc_sourcemap_lookup.specs.Digits.{binary_digits}
use Rattle.oxc_sourcemap_map.specs.Places.{token_original, listed}
use Rattle.oxc_sourcemap_map.proofs.reverse.order.count_before.Given as goal

abbrev pub invariant-loop-size : goal.invariant-loop-size
invariant-loop-size l = record {
  within : l.start + l.size ≤ length l.order;
  counted : l.steps + binary_digits l.size ≡ l.fn.steps + binary_digits (length l.order);
  small : binary_digits (length l.order) ≤ 64;
  before : (k : ℕ) (t : TokenRecord) → k < l.start → token_original (get_or (listed l.tokens l.order) k t) < l.place;
  others : (k : ℕ) (t : TokenRecord) → l.start + l.size ≤ k → k < length l.order → l.place ≤ token_original (get_or (listed l.tokens l.order) k t);
}

abbrev pub decreases-loop-size : goal.decreases-loop-size
decreases-loop-size l = l.size
