use Rattle.std.proofs.Common.{◌≡◌, nat_lt, get_or, if◌then◌else◌, ◌+◌, ◌-◌, ◌/◌, length, arith, ap}
use Rattle.std.proofs.Common.{◌∙◌, refl}
use Rattle.std.proofs.lemmas.Grind.{common_steps}
use Rattle.std.proofs.lemmas.List.{length-map}
use Rattle.oxc_sourcemap_parts.specs.Sorted.{token_column}
use Rattle.oxc_sourcemap_lookup.proofs.Halving.{before-all, chosen}
use Rattle.oxc_sourcemap_lookup.proofs.ColumnSearches.{halved-columns}
use Rattle.oxc_sourcemap_lookup.proofs.columns.count_before.Goals as goal

pub loop-size-init : goal.loop-size-init
loop-size-init c = record {
  within = omega arith;
  count = λ line is g.
      let total : length c.args.columns.now ≡ length line = ap length is ∙ length-map line token_column in
      (omega arith, omega (arith, before-all c.args.col line, total));
}

pub loop-size-preserved : goal.loop-size-preserved
loop-size-preserved c =
    let columns = c.args.columns.now in
    let col = c.args.col in
    let start = c.loop-size.start in
    let size = c.loop-size.size in
    let left = size - size / 2 in
    let b = nat_lt (get_or columns (start + left - 1) 0) col in
    let value : c.count_if_before-start.result ≡ (if b then left else 0) = grind (arith, common_steps) in
    let most = chosen b left in
    let h = c.loop-size.invariant in record {
      within = omega (arith, value, most, h.within);
      count = λ line is g.
          let kept = h.count line is g in
          let front = halved-columns b col columns line start left (size / 2) is refl (omega arith) (omega arith) (omega (arith, h.within)) g kept.0 (omega (arith, kept.1)) in
          (omega (arith, front.0, value), omega (arith, front.1, value));
    }

pub returns-clause-count : goal.returns-clause-count
returns-clause-count c = λ line is g. let kept = c.loop-size.invariant.count line is g in omega (arith, kept.0, kept.1)
