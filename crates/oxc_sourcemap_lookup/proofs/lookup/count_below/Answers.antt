use Rattle.std.proofs.Common.{◌≡◌, nat_lt, get_or, if◌then◌else◌, ◌<◌, ◌+◌, ◌-◌, ◌/◌, ◌^◌, length}
use Rattle.std.proofs.Common.{arith, ap, rules}
use Rattle.std.proofs.lemmas.Grind.{common_steps}
use Rattle.oxc_sourcemap_parts.specs.Sorted.{token_column}
use Rattle.oxc_sourcemap_lookup.proofs.Halving.{digits-half, digits-below, before-all, chosen}
use Rattle.oxc_sourcemap_lookup.proofs.Halving.{halved}
use Rattle.oxc_sourcemap_lookup.proofs.lookup.count_below.Goals as goal

pub loop-size-init : goal.loop-size-init
loop-size-init c =
    let fits : length c.args.line.now < 2 ^ 64 = search rules in record {
      within = omega arith;
      counted = omega arith;
      small = digits-below 64 (length c.args.line.now) fits;
      count = λ g. (omega arith, omega (arith, before-all c.args.col c.args.line.now));
    }

pub compare_column-start-requires : goal.compare_column-start-requires
compare_column-start-requires c = let h = c.loop-size.invariant in omega (arith, digits-half c.loop-size.size c.loop-size-test.true)

pub loop-size-preserved : goal.loop-size-preserved
loop-size-preserved c =
    let line = c.args.line.now in
    let col = c.args.col in
    let start = c.loop-size.start in
    let size = c.loop-size.size in
    let left = size - size / 2 in
    let t = c.index-line-next.result in
    let b = nat_lt t.dst_col col in
    let at : (get_or line (start + left - 1) t).dst_col ≡ t.dst_col = omega (arith, ap token_column c.index-line-next.is) in
    let value : c.compare_column-start.result ≡ (if b then left else 0) = grind (arith, common_steps) in
    let most = chosen b left in
    let h = c.loop-size.invariant in
    let half = digits-half size c.loop-size-test.true in record {
      within = omega (arith, value, most, h.within);
      counted = omega arith;
      small = h.small;
      count = λ g.
          let front = halved b col line start left (size / 2) t (ap (λ x. nat_lt x col) at) (omega arith) (omega arith) (omega (arith, h.within)) g (h.count g).0 (omega (arith, (h.count g).1)) in
          (omega (arith, front.0, value), omega (arith, front.1, value));
    }
