use Rattle.std.proofs.Common.{◌≡◌, ℕ, ◌≤◌, map}
use Rattle.std.specs.List.{range_with_len}
use Rattle.oxc_sourcemap_tokens.specs.LineOrder.{IsInLineOrder}
use Rattle.oxc_sourcemap_parts.specs.Sorted.{token_line}
use Rattle.oxc_sourcemap_lookup.specs.Lookup.{on_line}
use Rattle.oxc_sourcemap_lookup.proofs.Tables.{IsFrom}
use Rattle.oxc_sourcemap_lookup.proofs.lookup.cut_by_line.Given as goal

abbrev pub invariant-loop-line : goal.invariant-loop-line
invariant-loop-line l = record {
  back : IsFrom l.line l.rest → IsFrom 0 l.tokens;
  cut : IsInLineOrder l.tokens
      → (map (λ s. s.now) l.table.items ≡ map (λ n. on_line token_line n l.tokens) (range_with_len 0 l.line))
      × IsFrom l.line l.rest
      × ((n : ℕ) → l.line ≤ n → on_line token_line n l.rest ≡ on_line token_line n l.tokens);
}
