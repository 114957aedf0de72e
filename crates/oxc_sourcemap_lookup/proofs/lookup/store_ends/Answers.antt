use Rattle.std.proofs.Common.{◌≡◌, ◌<◌, ◌≤◌, ◌+◌, arith, length, take, drop, refl, sym, ap, subst}
use Rattle.std.proofs.Common.{◌∙◌, get_or, max}
use Rattle.std.proofs.Math.ListN.{set}
use Rattle.std.proofs.lemmas.Grind.{common_steps}
use Rattle.oxc_sourcemap_lookup.specs.LineSpans.{EndsOf}
use Rattle.oxc_sourcemap_lookup.proofs.Tables.{IsFrom, in_order-from_0, from-in_order}
use Rattle.oxc_sourcemap_lookup.proofs.LineSpans.{none-from}
use Rattle.oxc_sourcemap_lookup.proofs.LineEnds.{reached, next-from, back-from, all-more, ends-more}
use Rattle.oxc_sourcemap_lookup.proofs.lookup.store_ends.Goals as goal
use Rattle.oxc_sourcemap_lookup.proofs.lookup.store_ends.Goals.{then-here-line-via-then-here-line}
use Rattle.oxc_sourcemap_lookup.proofs.lookup.store_ends.Goals.{then-here-line-via-else-here-line+then-here-ends}

pub loop-token-init : goal.loop-token-init
loop-token-init c = record {
  lines = c.requires.lines;
  count = refl;
  order = λ order. in_order-from_0 _ order;
  back = λ p. p;
  before = λ n h. refl;
  each = λ n d h. (let zero : get_or c.args.ends.now n d ≡ 0 = c.requires.zeros n d h in ap (max 0) zero);
}

pub returns-then-here-line-clause-out_of_order : goal.returns-then-here-line-clause-out_of_order
returns-then-here-line-clause-out_of_order c = λ none order.
    let tokens = c.args.tokens.now in
    let i = c.loop-token.token-index in
    let t = c.token-item.result in
    let within : i < length tokens = grind (arith, common_steps) in
    let read : get_or tokens i t ≡ t = grind (arith, common_steps) in
    let from = next-from tokens i c.loop-token.line t within read (c.loop-token.invariant.order order) in
    let most = reached tokens i t order within in
    let line = ap (λ u. u.dst_line) read in
    elim c.then-here-line.branch [
      | then-here-line-via-then-here-line w ↦ omega (arith, from.0, w.if-here-line.true, c.get_dst_line-here.ensures.value)
      | then-here-line-via-else-here-line+then-here-ends w ↦ omega (arith, most, line, w.if-here-ends.true, c.get_dst_line-here.ensures.value, c.loop-token.invariant.lines)
    ]

pub loop-token-preserved : goal.loop-token-preserved
loop-token-preserved c =
    let tokens = c.args.tokens.now in
    let i = c.loop-token.token-index in
    let t = c.token-item.result in
    let h = c.loop-token.invariant in
    let within = c.loop-token-test.true in
    let read : get_or tokens i t ≡ t = sym c.token-item.is in
    let line = c.get_dst_line-here.ensures.value in
    let not_before : c.loop-token.line ≤ t.dst_line = omega (arith, c.if-here-line.false, line) in
    let count : c.loop-token.end + 1 ≡ i + 1 = ap (λ n. n + 1) h.count in
    let size : length (set c.loop-token.ends t.dst_line (i + 1)) ≡ length c.loop-token.ends = grind (arith, common_steps) in
    let set_is : set c.loop-token.ends c.get_dst_line-here.result (c.loop-token.end + 1) ≡ set c.loop-token.ends t.dst_line (i + 1) = ap (λ n. set c.loop-token.ends n (c.loop-token.end + 1)) line ∙ ap (set c.loop-token.ends t.dst_line) count in
    record {
      lines = ap length set_is ∙ size ∙ h.lines;
      count = count;
      order = λ order. subst (λ n. IsFrom n (drop (i + 1) tokens)) (sym line) (next-from tokens i c.loop-token.line t within read (h.order order)).1;
      back = λ p. h.back (back-from tokens i c.loop-token.line t within read not_before (subst (λ n. IsFrom n (drop (i + 1) tokens)) line p));
      before = λ n after. all-more tokens i c.loop-token.line t within read not_before h.before n (omega (arith, after, line));
      each = subst (EndsOf (take (i + 1) tokens)) (sym set_is) (ends-more tokens i c.loop-token.line t within read not_before h.before c.loop-token.ends h.each size);
    }

pub returns-clause-ends : goal.returns-clause-ends
returns-clause-ends c = λ yes.
    let tokens = c.args.tokens.now in
    let all : take c.loop-token.token-index tokens ≡ tokens = grind (arith, common_steps) in
    record {
      order = from-in_order 0 tokens (c.loop-token.invariant.back (none-from c.loop-token.line c.loop-token.token-index tokens (grind (arith, common_steps))));
      lines = c.loop-token.invariant.lines;
      each = subst (λ ts. EndsOf ts c.loop-token.ends) all c.loop-token.invariant.each;
    }
