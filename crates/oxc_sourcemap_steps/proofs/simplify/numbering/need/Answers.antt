use Rattle.std.proofs.Common.{◌≡◌, ◌∙◌, ◌<◌, sym, subst, ap, arith, length, set, Some, None, ◌++◌}
use Rattle.std.proofs.Common.{◌∷◌, []}
use Rattle.std.proofs.lemmas.Grind.{common_steps}
use Rattle.std.specs.List.{AllByRecursion}
use Rattle.oxc_sourcemap_steps.specs.SimplifySteps.{index_in, AreApart}
use Rattle.oxc_sourcemap_steps.proofs.NextNumbers.{none-at, numbers-more, apart-more, within-more}
use Rattle.oxc_sourcemap_steps.proofs.NextNumbers.{count-set}
use Rattle.oxc_sourcemap_steps.proofs.simplify.numbering.need.Goals as goal

pub returns-clause-numbering : goal.returns-clause-numbering
returns-clause-numbering c =
    let ns = c.args.numbering.now.numbers.items in
    let ks = c.args.numbering.now.order.items in
    let k = c.args.k in
    let old = c.requires.numbering in
    let none : index_in k ks ≡ None = none-at ns k (index_in k ks) c.index.result.now (old.numbers k c.requires.within) c.index.ensures (sym c.is_some.ensures ∙ c.if-is_some.false) in
    let count : c.len-count.result ≡ length ks = omega (arith, c.len-count.ensures, c.args.numbering.now.order.ok.0) in
    let more = c.in_ok-push.ensures.items in
    let len = ap length more in record {
      numbers = λ j l. numbers-more ns ks k c.len-count.result old.numbers none count c.requires.within j l ∙ ap (λ os. Some (index_in j os)) (sym more);
      apart = subst AreApart (sym more) (apart-more ks k none old.apart);
      within = subst (λ os. AllByRecursion (λ j. j < length (set ns k (Some c.len-count.result))) os) (sym more)
          (subst (λ n. AllByRecursion (λ j. j < n) (ks ++ k ∷ [])) (sym (count-set ns k (Some c.len-count.result))) (within-more (length ns) ks k old.within c.requires.within));
      few = grind (arith, common_steps, len, count, c.if-count-ge4294967295.false);
    }
