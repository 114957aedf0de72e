use Rattle.std.proofs.Common.{◌≡◌, suc, ◌+◌, ◌∙◌, ◌++◌, ◌∷◌, [], map, arith, sym, ap}
use Rattle.std.proofs.lemmas.Grind.{common_steps}
use Rattle.std.specs.List.{range_with_len}
use Rattle.oxc_sourcemap_tokens.specs.Token.{last}
use Rattle.oxc_sourcemap_lookup.specs.Lookup.{lines_through}
use Rattle.oxc_sourcemap_lookup.specs.LineSpans.{count_before_line}
use Rattle.oxc_sourcemap_lookup.proofs.Tables.{in_order-from_0, rows-push}
use Rattle.oxc_sourcemap_lookup.proofs.LineStarts.{none-before}
use Rattle.oxc_sourcemap_lookup.proofs.line_index.starts_at_ends.Goals as goal

pub loop-end-init : goal.loop-end-init
loop-end-init c =
    let none = none-before 0 c.args.tokens.now (in_order-from_0 _ c.requires.ends.order) in record {
      start = sym none;
      starts = c.in_ok-push.ensures.items ∙ ap (λ xs. xs ++ 0 ∷ []) c.in_ok-starts.ensures.items ∙ ap (λ n. n ∷ []) (sym none);
    }

pub loop-end-preserved : goal.loop-end-preserved
loop-end-preserved c =
    let tokens = c.args.tokens.now in
    let i = c.loop-end.end-index in
    let h = c.loop-end.invariant in
    let each = c.requires.ends.each i 0 c.loop-end-test.true in
    let next : c.max-start.result ≡ count_before_line (i + 1) tokens = grind (arith, common_steps, each, h.start) in
    let last : i + 1 ≡ 0 + (i + 1) = omega arith in
    let count : suc (i + 1) ≡ i + 1 + 1 = omega arith in
    let rows = rows-push (λ n. count_before_line n tokens) 0 (i + 1) in record {
      start = next;
      starts = c.in_ok-push-2.ensures.items ∙ ap (λ xs. xs ++ c.max-start.result ∷ []) h.starts
          ∙ ap (λ n. map (λ n. count_before_line n tokens) (range_with_len 0 (i + 1)) ++ n ∷ []) (next ∙ ap (λ n. count_before_line n tokens) last) ∙ sym rows ∙ ap (λ k. map (λ n. count_before_line n tokens) (range_with_len 0 k)) count;
    }

pub returns : goal.returns
returns c =
    let tokens = c.args.tokens.now in
    let h = c.loop-end.invariant in
    let lines : c.loop-end.end-index ≡ lines_through (last tokens) = grind (arith, common_steps, c.requires.ends.lines) in
    record {
      order = c.requires.ends.order;
      each = h.starts ∙ ap (λ k. map (λ n. count_before_line n tokens) (range_with_len 0 (k + 1))) lines;
      few = c.requires.few;
    }
