use Rattle.std.proofs.Common.{◌≡◌, ◌+◌, ◌<◌, ◌≤◌, ◌++◌, ◌∷◌, [], length, get_or, refl, sym, ap, ◌∙◌}
use Rattle.std.proofs.Common.{arith, subst}
use Rattle.std.proofs.lemmas.List.{get_or_default}
use Rattle.std.proofs.lemmas.Grind.{common_steps}
use Rattle.oxc_sourcemap_tokens.specs.Token.{TokenRecord}
use Rattle.oxc_sourcemap_compiled.proofs.Listings.{IsListing, listing-push, listing-skip}
use Rattle.oxc_sourcemap_compiled.proofs.writing.lines.filled_lines.Goals.{}
use Rattle.oxc_sourcemap_compiled.proofs.writing.lines.filled_lines.Goals.{}
use Rattle.oxc_sourcemap_compiled.proofs.writing.lines.filled_lines.Goals.{then-from-next+in_ok-push}
use Rattle.oxc_sourcemap_compiled.proofs.writing.lines.filled_lines.Goals.{else-from-next}
use Rattle.oxc_sourcemap_compiled.proofs.writing.lines.filled_lines.Goals as goal

pub loop-token-init : goal.loop-token-init
loop-token-init c =
    let none : length c.new-lines.result.items ≡ 0 = grind (arith, common_steps, c.new-lines.ensures.items) in record {
      few = omega (arith, none);
      rise = λ k lt. absurd (omega (arith, lt, none));
      below = λ k lt. absurd (omega (arith, lt, none));
      each = λ i d lt. absurd (omega (arith, lt));
      next_is = λ d lt. absurd (omega (arith, lt));
      start = λ e. refl;
    }

pub loop-token-preserved : goal.loop-token-preserved
loop-token-preserved c =
    let ts = c.args.tokens.now in
    let n = c.loop-token.token-index in
    let line = c.get_dst_line-line.result in
    let lines = c.loop-token.lines.items in
    let there = c.loop-token-test.true in
    let is : (d : TokenRecord) → (get_or ts n d).dst_line ≡ line = λ d.
    ap (λ t. t.dst_line) (get_or_default ts n d c.token-item.result there ∙ sym c.token-item.is) ∙ sym c.get_dst_line-line.ensures.value in
    elim c.if-from-next.branch [
      | then-from-next+in_ok-push w ↦
          let past : c.loop-token.next ≤ line = omega (arith, w.if-from-next.true, c.from.ensures) in
          let made = listing-push ts n line c.loop-token.next lines there is c.loop-token.invariant past in
          let items : c.if-from-next.lines.items ≡ lines ++ line ∷ [] = ap (λ v. v.items) w.lines-is ∙ w.in_ok-push.ensures.items in
          let next : c.if-from-next.next ≡ line + 1 = w.next-is ∙ ap (λ m. m + 1) w.from-next.ensures in
          subst (λ m. IsListing ts (n + 1) c.if-from-next.lines.items m) (sym next) (subst (λ xs. IsListing ts (n + 1) xs (line + 1)) (sym items) made)
      | else-from-next w ↦
          let before : line < c.loop-token.next = omega (arith, w.if-from-next.false, c.from.ensures) in
          let made = listing-skip ts n line c.loop-token.next lines there is c.loop-token.invariant c.requires before in
          subst (λ m. IsListing ts (n + 1) c.if-from-next.lines.items m) (sym w.next-is) (subst (λ xs. IsListing ts (n + 1) xs c.loop-token.next) (sym (ap (λ v. v.items) w.lines-is)) made)
    ]

pub returns-clause-lines : goal.returns-clause-lines
returns-clause-lines c =
    let h = c.loop-token.invariant in record {
      rise = h.rise;
      each = λ i d lt. h.each i d (omega (arith, lt, c.loop-token-test.false));
    }

pub returns-clause-few : goal.returns-clause-few
returns-clause-few c = omega (arith, c.loop-token.invariant.few, c.loop-token.auto.token-index-end)
