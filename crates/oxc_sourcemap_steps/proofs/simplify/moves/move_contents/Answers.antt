use Rattle.std.proofs.Common.{◌≡◌, ◌∙◌, ◌+◌, ◌∷◌, ap, subst, arith, length, get_or, drop, None}
use Rattle.std.proofs.Common.{◌++◌, map}
use Rattle.std.proofs.lemmas.List.{drop_more}
use Rattle.oxc_sourcemap_parts.specs.Views.{text_of, contents_of}
use Rattle.oxc_sourcemap_steps.specs.SimplifySteps.{AreApart}
use Rattle.oxc_sourcemap_steps.proofs.Moved.{moved-more}
use Rattle.oxc_sourcemap_steps.proofs.simplify.moves.move_contents.Goals as goal

pub loop-k-preserved : goal.loop-k-preserved
loop-k-preserved c =
    let order = c.args.order.now in
    let i = c.loop-k.k-index in
    let k = get_or order i 0 in
    let rest = drop (i + 1) order in
    let xs = c.loop-k.contents.items in
    let split : drop i order ≡ k ∷ rest = drop_more order i 0 c.loop-k-test.true in
    let apart = subst AreApart split c.loop-k.invariant.apart in
    let count = ap length split in
    let others = c.move_content.ensures.others in record {
      apart = apart.1;
      room = omega (arith, count, c.loop-k.invariant.room, c.push_reserved.ensures.len, c.push_reserved.ensures.capacity);
      moved = ap (λ cs. contents_of c.push_reserved.new.self ++ map (λ j. get_or (map text_of cs) j None) rest) others
          ∙ moved-more text_of xs k None None c.move_content.result rest (drop i order) c.loop-k.moved.items _ _ split c.push_reserved.ensures.items c.move_content.ensures.content apart.0 c.loop-k.invariant.moved;
    }
