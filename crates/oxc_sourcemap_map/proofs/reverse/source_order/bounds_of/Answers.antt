use Rattle.std.proofs.Common.{◌≡◌, ◌+◌, ◌<◌, ◌≤◌, ℕ, get_or, length, inl, inr, arith, ap}
use Rattle.std.proofs.lemmas.Bool.{cases_lt}
use Rattle.oxc_sourcemap_map.proofs.ReverseFound.{same_read}
use Rattle.oxc_sourcemap_map.proofs.reverse.source_order.bounds_of.Goals as goal

pub loop-i-preserved : goal.loop-i-preserved
loop-i-preserved c =
    let at = c.loop-i.i-index in
    let lt : at < length c.args.indices.now = c.loop-i-test.true in
    let low = c.min-least.ensures in
    let high = c.max-most.ensures in record {
      rise = omega (arith, low, high, c.loop-i.invariant.rise);
      below = λ n all. omega (arith, high, c.loop-i.invariant.below n all, all at 0 lt);
      all = λ k d h. elim (cases_lt k at) [
        | inl old ↦ (let before = c.loop-i.invariant.all k d old in (omega (arith, low, before.0), omega (arith, high, before.1)))
        | inr new ↦
            let is : k ≡ at = omega (arith, h, new) in
            let here = ap (λ i. get_or c.args.indices.now i d) is in
            let same = same_read c.args.indices.now at d 0 lt in
            (omega (arith, low, here, same), omega (arith, high, here, same))
      ];
    }
