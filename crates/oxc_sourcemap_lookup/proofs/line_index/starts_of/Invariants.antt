use Rattle.std.proofs.Common.{◌≡◌, ◌≤◌, ◌+◌, length, drop, map}
use Rattle.std.specs.List.{range_with_len}
use Rattle.oxc_sourcemap_tokens.specs.LineOrder.{IsInLineOrder}
use Rattle.oxc_sourcemap_lookup.specs.LineSpans.{count_before_line}
use Rattle.oxc_sourcemap_lookup.proofs.Tables.{IsFrom}
use Rattle.oxc_sourcemap_lookup.proofs.line_index.starts_of.Given as goal

abbrev pub invariant-loop-line : goal.invariant-loop-line
invariant-loop-line l = record {
  within : l.start ≤ length l.tokens;
  back : IsFrom l.line (drop l.start l.tokens) → IsFrom 0 l.tokens;
  counts : IsInLineOrder l.tokens
      → (l.start ≡ count_before_line l.line l.tokens) × (l.starts.items ≡ map (λ n. count_before_line n l.tokens) (range_with_len 0 (l.line + 1)));
}
