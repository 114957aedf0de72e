use Rattle.std.proofs.Common.{◌≡◌, map}
use Rattle.std.specs.List.{range_with_len}
use Rattle.oxc_sourcemap_parts.specs.Sorted.{token_line}
use Rattle.oxc_sourcemap_lookup.specs.Lookup.{on_line}
use Rattle.oxc_sourcemap_lookup.specs.LineSpans.{count_before_line}
use Rattle.oxc_sourcemap_lookup.proofs.lookup.cut_at_ends.Given as goal

abbrev pub invariant-loop-last : goal.invariant-loop-last
invariant-loop-last l = record {
  start : l.start ≡ count_before_line l.last-index l.tokens;
  rows : map (λ s. s.now) l.table.items ≡ map (λ n. on_line token_line n l.tokens) (range_with_len 0 l.last-index);
}
