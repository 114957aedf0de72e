use Rattle.std.proofs.Common.{◌-◌, ◌^◌, ◌≡◌, ◌≤◌, length, get_or, nat_lt, refl, ap, ◌∙◌, sym, arith}
use Rattle.std.proofs.Common.{⊎_elim}
use Rattle.std.proofs.lemmas.List.{get_or_default}
use Rattle.oxc_sourcemap_tokens.specs.Token.{TokenRecord}
use Rattle.oxc_sourcemap_compiled.specs.Words.{field_number}
use Rattle.oxc_sourcemap_compiled.proofs.Slices.{up-to, min-is, max-is}
use Rattle.oxc_sourcemap_compiled.proofs.writing.blocks.packing_of.Goals as goal

pub loop-token-preserved : goal.loop-token-preserved
loop-token-preserved c =
    let f = field_number c.args.k in
    let tokens = c.args.tokens.now in
    let i = c.loop-token.token-index in
    let h = c.loop-token.invariant in
    let v = c.field_of-value.result in
    let least = c.min-least.result in
    let most = c.max-most.result in
    let at : (d : TokenRecord) → f (get_or tokens i d) ≡ v = λ d. ap f (get_or_default tokens i d c.token-item.result c.loop-token-test.true ∙ sym c.token-item.is) ∙ sym c.field_of-value.ensures in
    record {
      order = omega (arith, h.order, c.min-least.ensures, c.max-most.ensures);
      least = λ j d lt. up-to (λ j. least ≤ f (get_or tokens j d)) i j (λ j less. omega (arith, h.least j d less, c.min-least.ensures)) (omega (arith, at d, c.min-least.ensures)) lt;
      most = λ j d lt. up-to (λ j. f (get_or tokens j d) ≤ most) i j (λ j less. omega (arith, h.most j d less, c.max-most.ensures)) (omega (arith, at d, c.max-most.ensures)) lt;
      highest = λ d. ⊎_elim
          (λ (is : most ≡ c.loop-token.most). let old = h.highest d in (old.0, old.1, is ∙ old.2))
          (λ (is : most ≡ v). (i, c.loop-token-test.true, is ∙ sym (at d)))
          (max-is (nat_lt c.loop-token.most v) c.loop-token.most v most refl c.max-most.ensures);
      reached = λ d. ⊎_elim
          (λ (is : least ≡ c.loop-token.least). let old = h.reached d in (old.0, old.1, is ∙ old.2))
          (λ (is : least ≡ v). (i, c.loop-token-test.true, is ∙ sym (at d)))
          (min-is (nat_lt v c.loop-token.least) c.loop-token.least v least refl c.min-least.ensures);
    }

pub returns : goal.returns
returns c =
    let f = field_number c.args.k in
    let tokens = c.args.tokens.now in
    let h = c.loop-token.invariant in
    let all : c.loop-token.token-index ≡ length tokens = omega (arith, c.loop-token-test.false) in
    record {
      width = omega (arith, c.width_of.ensures.small);
      least = λ i d lt. h.least i d (omega (arith, lt, all));
      fits = λ i d lt. omega (arith, h.most i d (omega (arith, lt, all)), c.width_of.ensures.fits);
      reached = h.reached;
      needed = λ some d.
          let top = h.highest d in
          let none : c.width_of.result - 0 - 1 ≡ c.width_of.result - 1 = omega arith in
          (top.0, top.1, omega (arith, c.width_of.ensures.needed some, top.2, ap (λ n. 2 ^ n) none));
    }
