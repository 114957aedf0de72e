use Rattle.std.proofs.Common.{◌≡◌, ◌≤◌, ◌+◌, true, length, nat_lt}
use Rattle.std.specs.List.{prefix_len}
use Rattle.oxc_sourcemap_parts.specs.Sorted.{token_column}
use Rattle.oxc_sourcemap_lookup.specs.Digits.{binary_digits}
use Rattle.oxc_sourcemap_lookup.specs.Lookup.{no_column_goes_back}
use Rattle.oxc_sourcemap_lookup.proofs.lookup.count_below.Given as goal

abbrev pub invariant-loop-size : goal.invariant-loop-size
invariant-loop-size l = record {
  within : l.start + l.size ≤ length l.line;
  counted : l.steps + binary_digits l.size ≡ binary_digits (length l.line);
  small : binary_digits (length l.line) ≤ 64;
  count : no_column_goes_back token_column l.line ≡ true → (l.start ≤ prefix_len (λ t. nat_lt t.dst_col l.col) l.line) × (prefix_len (λ t. nat_lt t.dst_col l.col) l.line ≤ l.start + l.size);
}

abbrev pub decreases-loop-size : goal.decreases-loop-size
decreases-loop-size l = l.size
