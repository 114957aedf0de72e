use Rattle.std.proofs.Common.{◌≡◌, ◌≤◌, ◌+◌, ◌-◌, ◌==◌, arith, [], ◌∷◌, ◌++◌, map, length, drop}
use Rattle.std.proofs.Common.{take, sym, ap, ◌∙◌, length-drop}
use Rattle.std.proofs.lemmas.Grind.{common_steps}
use Rattle.std.proofs.lemmas.List.{take_all}
use Rattle.std.specs.List.{prefix_len, range_with_len}
use Rattle.oxc_sourcemap_tokens.specs.LineOrder.{IsInLineOrder}
use Rattle.oxc_sourcemap_lookup.specs.Lookup.{lines_through}
use Rattle.oxc_sourcemap_tokens.specs.Token.{last}
use Rattle.oxc_sourcemap_lookup.specs.LineSpans.{count_before_line}
use Rattle.oxc_sourcemap_lookup.proofs.Tables.{in_order-from_0, from-in_order, rows-push}
use Rattle.oxc_sourcemap_lookup.proofs.LineSpans.{counted-to, back-more, none-from}
use Rattle.oxc_sourcemap_lookup.proofs.LineStarts.{none-before, counts-next, all-before}
use Rattle.oxc_sourcemap_lookup.proofs.line_index.starts_of.Goals as goal

pub loop-line-init : goal.loop-line-init
loop-line-init c =
    let none = λ (order : IsInLineOrder c.args.tokens.now). none-before 0 c.args.tokens.now (in_order-from_0 _ order) in record {
      within = omega arith;
      back = λ p. p;
      counts = λ order. (sym (none order), c.in_ok-push.ensures.items ∙ ap (λ xs. xs ++ 0 ∷ []) c.in_ok-starts.ensures.items ∙ ap (λ n. n ∷ []) (sym (none order)));
    }

pub overflow_add-start : goal.overflow_add-start
overflow_add-start c = omega (arith, counted-to c.args.tokens.now c.loop-line.start c.line_length-start.result c.loop-line.line c.loop-line.invariant.within c.line_length-start.ensures, c.requires.small)

pub overflow_cast-start : goal.overflow_cast-start
overflow_cast-start c = omega (arith, counted-to c.args.tokens.now c.loop-line.start c.line_length-start.result c.loop-line.line c.loop-line.invariant.within c.line_length-start.ensures, c.requires.small)

pub loop-line-preserved : goal.loop-line-preserved
loop-line-preserved c =
    let tokens = c.args.tokens.now in
    let start = c.loop-line.start in
    let line = c.loop-line.line in
    let count = c.line_length-start.result in
    let rest = take (length tokens - start) (drop start tokens) in
    let rest_is : rest ≡ drop start tokens = take_all (length tokens - start) (drop start tokens) (omega (arith, length-drop start tokens)) in
    let counted : count ≡ prefix_len (λ t. t.dst_line == line) rest = c.line_length-start.ensures in
    let h = c.loop-line.invariant in
    record {
      within = counted-to tokens start count line h.within counted;
      back = λ p. h.back (back-more tokens rest start line line count rest_is counted (omega arith) p);
      counts = λ order.
          let inv = h.counts order in
          let next = counts-next line 0 tokens (in_order-from_0 tokens order) in
          let here = ap (prefix_len (λ t. t.dst_line == line)) (rest_is ∙ ap (λ n. drop n tokens) inv.0) in
          let sum : start + count ≡ count_before_line (line + 1) tokens = omega (arith, inv.0, counted, here, next) in
          let more = rows-push (λ n. count_before_line n tokens) 0 (line + 1) in
          (sum, grind (arith, common_steps, c.in_ok-push-2.ensures.items, inv.1, sum, more));
    }

pub returns-then-start-tokens-clause-starts : goal.returns-then-start-tokens-clause-starts
returns-then-start-tokens-clause-starts c =
    let tokens = c.args.tokens.now in
    let h = c.loop-line.invariant in
    let order = from-in_order 0 tokens (h.back (none-from c.loop-line.line c.loop-line.start tokens (omega (arith, c.if-start-tokens.true)))) in
    let lines : c.loop-line.line ≡ lines_through (last tokens) = omega (arith, c.line_count-lines.ensures, c.loop-line-test.false) in
    record {
      order = order;
      each = (h.counts order).1 ∙ ap (λ k. map (λ n. count_before_line n tokens) (range_with_len 0 (k + 1))) lines;
      few = c.requires.few;
    }

pub returns-else-start-tokens-clause-out_of_order : goal.returns-else-start-tokens-clause-out_of_order
returns-else-start-tokens-clause-out_of_order c = λ none order.
    let tokens = c.args.tokens.now in
    let lines : lines_through (last tokens) ≤ c.loop-line.line = omega (arith, c.line_count-lines.ensures, c.loop-line-test.false) in
    c.if-start-tokens.false ((c.loop-line.invariant.counts order).0 ∙ all-before c.loop-line.line tokens order lines)
