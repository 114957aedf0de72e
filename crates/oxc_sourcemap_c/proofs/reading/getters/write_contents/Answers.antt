use Rattle.std.proofs.Common.{◌≡◌, ◌<◌, ◌∙◌, sym, ap, subst, length, get_or, option_map, inl, inr}
use Rattle.std.proofs.Common.{arith}
use Rattle.std.proofs.lemmas.Bool.{cases_lt}
use Rattle.std.proofs.lemmas.Grind.{get_or-set_at}
use Rattle.std.proofs.lemmas.List.{length-map, get_or-map, get_or-set_other}
use Rattle.std.specs.Cow.{cow_str_bytes}
use Rattle.oxc_sourcemap_c.specs.Listed.{cow_options}
use Rattle.oxc_sourcemap_c.specs.Structs.{IsContentText}
use Rattle.oxc_sourcemap_c.proofs.Filling.{are_filled, left-next}
use Rattle.oxc_sourcemap_c.proofs.reading.getters.write_contents.Goals as goal

pub loop-i-preserved : goal.loop-i-preserved
loop-i-preserved c =
    let i = c.loop-i.i in
    let contents = c.args.contents.now in
    let lt : i < length contents = omega (arith, c.loop-i-test.true, c.min-i-end.ensures) in
    let room : i < length c.loop-i.out = omega (arith, c.loop-i-test.true, c.min-i-end.ensures, c.loop-i.auto.out) in
    let lent = c.content_text.result in record {
      written = λ k a b h. elim (cases_lt k i) [
        | inl old ↦ subst (λ x. IsContentText x (get_or (cow_options contents) k b)) (sym (get_or-set_other c.loop-i.out i k lent a (λ e. omega (arith, e, old)))) (c.loop-i.invariant.written k a b old)
        | inr new ↦
            let is : k ≡ i = omega (arith, h, new) in
            let d = c.index-contents-i.result in
            let at = get_or-set_at c.loop-i.out i k lent a is room in
            let text = ap (λ j. get_or (cow_options contents) j b) is ∙ get_or-map (option_map cow_str_bytes) contents i d b lt ∙ ap (option_map cow_str_bytes) (sym c.index-contents-i.is) in
            subst (λ x. IsContentText x (get_or (cow_options contents) k b)) (sym at) (subst (λ y. IsContentText lent y) (sym text) c.content_text.ensures)
      ];
      left = left-next c.loop-i.out c.args.out.now i lent c.loop-i.invariant.left room (omega arith);
    }

pub returns : goal.returns
returns c =
    are_filled IsContentText (cow_options c.args.contents.now) c.args.out.now c.loop-i.out c.loop-i.i (omega (arith, length-map c.args.contents.now (option_map cow_str_bytes), c.min-i-end.ensures, c.loop-i.auto.i-end, c.loop-i-test.false)) (omega arith)
    (λ k a b lt. c.loop-i.invariant.written k a b lt) c.loop-i.invariant.left
