use Rattle.std.proofs.Common.{◌≡◌, suc, ◌+◌, subst, arith}
use Rattle.oxc_sourcemap_queries.specs.Cuts.{AreLeft}
use Rattle.oxc_sourcemap_queries.proofs.Cutting.{cut-goes, cut-left}
use Rattle.oxc_sourcemap_queries.proofs.pieces.cuts.count_pieces.Goals as goal

pub loop-place-smaller : goal.loop-place-smaller
loop-place-smaller c =
    let go = cut-goes c.args.tokens.now c.loop-place.next c.loop-place.place c.args.end c.cut_at-cut.result c.cut_at-cut.ensures c.loop-place.invariant.within c.loop-place-test.true in
    omega (arith, go.0, go.1)

pub loop-place-preserved : goal.loop-place-preserved
loop-place-preserved c =
    let ts = c.args.tokens.now in
    let h = c.loop-place.invariant in
    let go = cut-goes ts c.loop-place.next c.loop-place.place c.args.end c.cut_at-cut.result c.cut_at-cut.ensures h.within c.loop-place-test.true in record {
      within = go.2;
      counted = omega (arith, h.counted, go.0);
      left = λ n left.
          let same : c.loop-place.count + suc n ≡ c.loop-place.count + 1 + n = omega arith in
          let more = cut-left ts c.loop-place.next c.loop-place.place c.args.end n c.cut_at-cut.result c.cut_at-cut.ensures h.within c.loop-place-test.true left in
          subst (λ k. AreLeft ts c.args.next c.args.place c.args.end k) same (h.left (suc n) more);
    }

pub returns : goal.returns
returns c =
    let same : c.loop-place.count + 0 ≡ c.loop-place.count = omega arith in
    subst (λ k. AreLeft c.args.tokens.now c.args.next c.args.place c.args.end k) same (c.loop-place.invariant.left 0 c.loop-place-test.false)
