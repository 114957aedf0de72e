use Rattle.std.proofs.Common.{◌≡◌, ◌≤◌, ◌+◌, true, length, nat_lt, List, map}
use Rattle.std.specs.List.{prefix_len}
use Rattle.oxc_sourcemap_tokens.specs.Token.{TokenRecord}
use Rattle.oxc_sourcemap_parts.specs.Sorted.{token_column}
use Rattle.oxc_sourcemap_lookup.specs.Lookup.{no_column_goes_back}
use Rattle.oxc_sourcemap_lookup.proofs.columns.count_before.Given as goal

abbrev pub invariant-loop-size : goal.invariant-loop-size
invariant-loop-size l = record {
  within : l.start + l.size ≤ length l.columns;
  count : (line : List TokenRecord) → l.columns ≡ map token_column line → no_column_goes_back token_column line ≡ true
      → (l.start ≤ prefix_len (λ t. nat_lt t.dst_col l.col) line) × (prefix_len (λ t. nat_lt t.dst_col l.col) line ≤ l.start + l.size);
}

abbrev pub decreases-loop-size : goal.decreases-loop-size
decreases-loop-size l = l.size
