use Rattle.std.proofs.Common.{◌≡◌, ◌∙◌, ◌+◌, ◌<◌, List, ◌∷◌, ℕ, [], sym, ap, subst, arith, length}
use Rattle.std.proofs.Common.{get_or, drop}
use Rattle.std.proofs.lemmas.List.{drop_more}
use Rattle.std.specs.Cow.{cow_str_bytes}
use Rattle.std.specs.List.{AllByRecursion}
use Rattle.oxc_sourcemap_steps.specs.SimplifySteps.{AreApart}
use Rattle.oxc_sourcemap_steps.proofs.Moved.{get-seen, moved-more}
use Rattle.oxc_sourcemap_steps.proofs.NextNumbers.{count-set}
use Rattle.oxc_sourcemap_steps.proofs.simplify.moves.move_texts.Goals as goal

pub loop-k-preserved : goal.loop-k-preserved
loop-k-preserved c =
    let order = c.args.order.now in
    let i = c.loop-k.k-index in
    let k = get_or order i 0 in
    let rest = drop (i + 1) order in
    let xs = c.loop-k.texts.items in
    let split : drop i order ≡ k ∷ rest = drop_more order i 0 c.loop-k-test.true in
    let within = subst (λ (ks : List ℕ). AllByRecursion (λ j. j < length xs) ks) split c.loop-k.invariant.within in
    let apart = subst AreApart split c.loop-k.invariant.apart in
    let count = ap length split in
    let v = c.replace.result in
    let was : c.index_mut.result.now ≡ get_or xs k c.index_mut.result.now = c.index_mut.ensures.value in
    let is : v ≡ get_or xs k v = c.replace.ensures.value ∙ was ∙ ap (get_or xs k) (sym c.replace.ensures.value) in record {
      within = subst (λ n. AllByRecursion (λ j. j < n) rest) (sym (count-set xs k c.replace.new.dest)) within.1;
      apart = apart.1;
      room = omega (arith, count, c.loop-k.invariant.room, c.push_reserved.ensures.len, c.push_reserved.ensures.capacity);
      moved = moved-more cow_str_bytes xs k c.replace.new.dest [] v rest (drop i order) c.loop-k.moved.items _ _ split c.push_reserved.ensures.items (get-seen cow_str_bytes xs k [] v within.0 is) apart.0 c.loop-k.invariant.moved;
    }
