use Rattle.std.proofs.Common.{◌≡◌, arith, ◌+◌, ◌-◌, ◌∙◌, ap, sym, take, drop, map}
use Rattle.std.proofs.lemmas.Grind.{common_steps}
use Rattle.oxc_sourcemap_parts.specs.Sorted.{token_line}
use Rattle.oxc_sourcemap_lookup.specs.Lookup.{on_line}
use Rattle.oxc_sourcemap_lookup.specs.LineSpans.{count_before_line}
use Rattle.oxc_sourcemap_lookup.proofs.Tables.{in_order-from_0, rows-push}
use Rattle.oxc_sourcemap_lookup.proofs.LineStarts.{none-before, on_line-between}
use Rattle.oxc_sourcemap_lookup.proofs.lookup.cut_at_ends.Goals as goal

pub loop-last-init : goal.loop-last-init
loop-last-init c = record {
  start = sym (none-before 0 c.args.tokens.now (in_order-from_0 _ c.requires.order));
  rows = ap (map (λ s. s.now)) c.in_ok-table.ensures.items;
}

pub loop-last-preserved : goal.loop-last-preserved
loop-last-preserved c =
    let tokens = c.args.tokens.now in
    let i = c.loop-last.last-index in
    let start = c.loop-last.start in
    let h = c.loop-last.invariant in
    let each = c.requires.each i 0 c.loop-last-test.true in
    let next : c.max-end.result ≡ count_before_line (i + 1) tokens = grind (arith, common_steps, each, h.start) in
    let here : take (c.max-end.result - start) (drop start tokens) ≡ on_line token_line i tokens =
    ap (λ k. take (k - start) (drop start tokens)) next ∙ ap (λ k. take (count_before_line (i + 1) tokens - k) (drop k tokens)) h.start ∙ on_line-between i tokens c.requires.order in
    let rows = rows-push (λ n. on_line token_line n tokens) 0 i in record {
      start = next;
      rows = grind (arith, common_steps, h.rows, c.in_ok-push.ensures.items, here, rows);
    }
