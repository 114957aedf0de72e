use Rattle.std.proofs.Common.{◌≤◌, ◌-◌, length, drop}
use Rattle.oxc_sourcemap_tokens.specs.LineOrder.{IsInLineOrder}
use Rattle.oxc_sourcemap_lookup.proofs.Tables.{IsFrom}
use Rattle.oxc_sourcemap_lookup.proofs.LineSpans.{AreSpansTo}
use Rattle.oxc_sourcemap_lookup.proofs.line_index.spans_of.Given as goal

abbrev pub invariant-loop-start : goal.invariant-loop-start
invariant-loop-start l = record {
  within : l.start ≤ length l.tokens;
  back : IsFrom l.next_line (drop l.start l.tokens) → IsFrom 0 l.tokens;
  spans : IsInLineOrder l.tokens → AreSpansTo l.tokens l.start l.next_line l.spans.items;
}

abbrev pub decreases-loop-start : goal.decreases-loop-start
decreases-loop-start l = length l.tokens - l.start
