use Rattle.std.proofs.Common.{◌≡◌, ◌≤◌, arith, ◌∙◌, refl, sym, ap, subst, [], map}
use Rattle.std.proofs.lemmas.Grind.{common_steps}
use Rattle.std.proofs.lemmas.List.Sums.{prefix_len-le-length}
use Rattle.std.specs.List.{range_with_len}
use Rattle.oxc_sourcemap_parts.specs.Sorted.{token_line}
use Rattle.oxc_sourcemap_lookup.specs.Lookup.{on_line, lines_through}
use Rattle.oxc_sourcemap_tokens.specs.Token.{last}
use Rattle.oxc_sourcemap_lookup.proofs.Tables.{IsFrom, in_order-from_0, from-in_order}
use Rattle.oxc_sourcemap_lookup.proofs.Tables.{not_begins_before, front, left, others, joined}
use Rattle.oxc_sourcemap_lookup.proofs.Tables.{rows-push}
use Rattle.oxc_sourcemap_lookup.proofs.OwnTables.{none-left}
use Rattle.oxc_sourcemap_lookup.proofs.lookup.cut_by_line.Goals as goal

pub loop-line-init : goal.loop-line-init
loop-line-init c = record {
  back = λ p. p;
  cut = λ order. (grind (arith, common_steps), in_order-from_0 _ order, λ n h. refl);
}

pub split_at-requires : goal.split_at-requires
split_at-requires c = rw c.line_length.ensures (prefix_len-le-length _ _)

pub loop-line-preserved : goal.loop-line-preserved
loop-line-preserved c =
    let line = c.loop-line.line in
    let rest = c.loop-line.rest.now in
    let rows = rows-push (λ n. on_line token_line n c.args.tokens.now) 0 line in record {
      back = λ p. c.loop-line.invariant.back (joined line rest (rw (c.split_at.ensures.back, c.line_length.ensures) at p));
      cut = λ order.
          let inv = c.loop-line.invariant.cut order in
          let pushed = c.in_ok-push.ensures.items in
          let here = c.split_at.ensures.front ∙ (rw c.line_length.ensures (front line rest inv.1)) ∙ inv.2 line (omega arith) in (
            grind (arith, common_steps, inv.0, pushed, here, rows),
            rw (c.split_at.ensures.back, c.line_length.ensures) (left line rest inv.1),
            (λ n h. rw (c.split_at.ensures.back, c.line_length.ensures) (others n line rest (omega (arith, h)) ∙ inv.2 n (omega (arith, h)))),
          );
    }

pub returns-then-begins_before-clause-out_of_order : goal.returns-then-begins_before-clause-out_of_order
returns-then-begins_before-clause-out_of_order c = λ none order.
    not_begins_before c.loop-line.line c.loop-line.rest.now (c.loop-line.invariant.cut order).1 (sym c.begins_before.ensures ∙ c.if-begins_before.true)

pub returns-then-is_empty-clause-cut : goal.returns-then-is_empty-clause-cut
returns-then-is_empty-clause-cut c =
    let tokens = c.args.tokens.now in
    let empty : c.loop-line.rest.now ≡ [] = grind (arith, common_steps) in
    let order = from-in_order 0 tokens (c.loop-line.invariant.back (subst (IsFrom c.loop-line.line) (sym empty) tt)) in
    let lines : c.loop-line.line ≡ lines_through (last tokens) = omega (arith, c.line_count-lines.ensures) in
    (order, (c.loop-line.invariant.cut order).0 ∙ ap (λ k. map (λ n. on_line token_line n tokens) (range_with_len 0 k)) lines)

pub returns-clause-out_of_order : goal.returns-clause-out_of_order
returns-clause-out_of_order c = λ none order.
    let tokens = c.args.tokens.now in
    let inv = c.loop-line.invariant.cut order in
    let lines : lines_through (last tokens) ≤ c.loop-line.line = omega (arith, c.line_count-lines.ensures) in
    let empty = none-left c.loop-line.line c.loop-line.rest.now tokens order lines inv.1 inv.2 in
    grind (arith, common_steps, empty)
