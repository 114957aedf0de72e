use Rattle.std.proofs.Common.{◌≡◌, ◌+◌, map}
use Rattle.std.specs.List.{range_with_len}
use Rattle.oxc_sourcemap_lookup.specs.LineSpans.{count_before_line}
use Rattle.oxc_sourcemap_lookup.proofs.line_index.starts_at_ends.Given as goal

abbrev pub invariant-loop-end : goal.invariant-loop-end
invariant-loop-end l = record {
  start : l.start ≡ count_before_line l.end-index l.tokens;
  starts : l.starts.items ≡ map (λ n. count_before_line n l.tokens) (range_with_len 0 (l.end-index + 1));
}
