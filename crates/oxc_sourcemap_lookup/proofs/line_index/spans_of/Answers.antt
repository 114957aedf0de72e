use Rattle.std.proofs.Common.{◌≡◌, ◌≤◌, ◌+◌, ◌-◌, ◌==◌, arith, length, drop, take, refl, sym, ap}
use Rattle.std.proofs.Common.{subst, ◌∙◌, length-drop}
use Rattle.std.proofs.Math.Seq.{drop-cons}
use Rattle.std.proofs.lemmas.List.{take_all}
use Rattle.std.specs.List.{prefix_len}
use Rattle.oxc_sourcemap_parts.specs.Sorted.{token_line}
use Rattle.oxc_sourcemap_lookup.proofs.Tables.{IsFrom, in_order-from_0, from-in_order}
use Rattle.oxc_sourcemap_lookup.proofs.LineSpans.{AreSpansTo, spans-none, spans-more, spans-all}
use Rattle.oxc_sourcemap_lookup.proofs.LineSpans.{none-from, counted-within, back-more}
use Rattle.oxc_sourcemap_lookup.proofs.line_index.spans_of.Goals as goal

pub loop-start-init : goal.loop-start-init
loop-start-init c = record {
  within = omega arith;
  back = λ p. p;
  spans = λ order. spans-none c.args.tokens.now _ c.in_ok-spans.ensures.items (in_order-from_0 _ order);
}

pub overflow_add-end : goal.overflow_add-end
overflow_add-end c =
    let tokens = c.args.tokens.now in
    let start = c.loop-start.start in
    let rest_is : take (length tokens - start) (drop start tokens) ≡ drop start tokens = take_all (length tokens - start) (drop start tokens) (omega (arith, length-drop start tokens)) in
    let counted : c.line_length.result ≡ prefix_len (λ t. t.dst_line == c.from-in-loop-start.result) (take (length tokens - start) (drop start tokens)) = c.line_length.ensures in
    let within = counted-within tokens _ start c.line_length.result c.from-in-loop-start.result rest_is c.loop-start-test.true counted in
    omega (arith, within)

pub loop-start-preserved : goal.loop-start-preserved
loop-start-preserved c =
    let tokens = c.args.tokens.now in
    let start = c.loop-start.start in
    let line = c.get_dst_line-line.result in
    let count = c.line_length.result in
    let t = c.index-tokens-start.result in
    let rest = take (length tokens - start) (drop start tokens) in
    let rest_is : rest ≡ drop start tokens = take_all (length tokens - start) (drop start tokens) (omega (arith, length-drop start tokens)) in
    let from : count ≡ prefix_len (λ t. t.dst_line == c.from-in-loop-start.result) rest = c.line_length.ensures in
    let counted : count ≡ prefix_len (λ t. t.dst_line == line) rest = from ∙ ap (λ n. prefix_len (λ t. t.dst_line == n) rest) c.from-in-loop-start.ensures in
    let first = rest_is ∙ drop-cons tokens start t c.loop-start-test.true in
    let line_is = sym (ap token_line c.index-tokens-start.is) ∙ sym c.get_dst_line-line.ensures.value in
    let not_after : c.loop-start.next_line ≤ line = omega (arith, c.if-from-next_line.false, c.from.ensures) in
    let next : line + 1 ≡ c.from-next_line.result + 1 = ap (λ n. n + 1) (sym c.from-next_line.ensures) in
    let h = c.loop-start.invariant in
    record {
      within = counted-within tokens rest start count line rest_is c.loop-start-test.true counted;
      back = λ p. h.back (back-more tokens rest start c.loop-start.next_line line count rest_is counted not_after (subst (λ n. IsFrom n (drop (start + count) tokens)) (sym next) p));
      spans = λ order.
          let more = spans-more tokens rest _ _ start c.loop-start.next_line count c.loop-start.spans.items (record { line = line; start = start; end = start + count }) (h.spans order) rest_is first line_is counted refl refl c.loop-start-test.true in
          subst (λ n. AreSpansTo tokens (start + count) n c.push.new.self.items) next (subst (AreSpansTo tokens (start + count) (line + 1)) (sym c.in_ok-push.ensures.items) more);
    }

pub returns-clause-spans : goal.returns-clause-spans
returns-clause-spans c =
    let tokens = c.args.tokens.now in
    let h = c.loop-start.invariant in
    let order = from-in_order 0 tokens (h.back (none-from c.loop-start.next_line c.loop-start.start tokens c.loop-start-test.false)) in
    spans-all tokens c.loop-start.start c.loop-start.next_line _ order c.loop-start-test.false (h.spans order)
