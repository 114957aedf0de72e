use Rattle.std.proofs.Common.{◌≡◌, ◌∙◌, ◌+◌, [], ap, arith, get_or, length, subst, sym}
use Rattle.oxc_sourcemap_steps.specs.RemapSteps.{AreLastUses, listed_index, source_paths}
use Rattle.oxc_sourcemap_steps.proofs.MovedSources.{is-below, last-next, length-with_last, path-at}
use Rattle.oxc_sourcemap_steps.proofs.remap.moving.last_uses.Goals as goal

pub set_last-requires : goal.set_last-requires
set_last-requires c = is-below _ _ c.args.count _ c.listed_index.ensures (c.requires c.as_str.result.now) (sym c.loop-i.invariant.each)

pub loop-i-preserved : goal.loop-i-preserved
loop-i-preserved c =
    let places = c.args.places.now in
    let paths = source_paths c.args.sources.now in
    let i = c.loop-i.i in
    let old = c.loop-i.last.items in
    let place = c.listed_index.result in
    let path = path-at c.args.sources.now i c.index-sources-i.result c.loop-i-test.true c.index-sources-i.is in
    let at : listed_index places (get_or paths i []) ≡ place = ap (listed_index places) (path ∙ sym c.as_str.ensures.value) ∙ sym c.listed_index.ensures in
    let below = is-below _ _ c.args.count (length old) c.listed_index.ensures (c.requires c.as_str.result.now) (sym c.loop-i.invariant.each) in record {
      each = ap length c.set_last.ensures ∙ length-with_last old place i ∙ c.loop-i.invariant.each;
      last = subst (λ last. AreLastUses (i + 1) places paths last) (sym c.set_last.ensures) (last-next places paths old i c.loop-i.invariant.last place at below);
    }

pub returns-clause-last : goal.returns-clause-last
returns-clause-last c = λ i k f g. c.loop-i.invariant.last i k (omega (arith, f, c.loop-i-test.false)) g
