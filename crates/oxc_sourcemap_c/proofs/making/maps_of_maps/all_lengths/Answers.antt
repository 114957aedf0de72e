use Rattle.std.proofs.Common.{arith, ap, sym, ◌∙◌}
use Rattle.oxc_sourcemap_c.specs.declared.holding.lent.Lent.{Lent}
use Rattle.oxc_sourcemap_c.specs.Holding.{held_map}
use Rattle.oxc_sourcemap_c.proofs.MapsOfMaps.{missing_more, there_more}
use Rattle.oxc_sourcemap_c.proofs.making.maps_of_maps.all_lengths.Goals as goal

pub loop-i-preserved : goal.loop-i-preserved
loop-i-preserved c =
    let h = c.index-maps-i.result in
    record {
      there = λ more. c.loop-i.invariant.there (there_more c.args.maps.now c.loop-i.i h (omega arith) c.index-maps-i.is c.in_ok-lengths.ensures.there more);
      missing = λ e. c.loop-i.invariant.missing (missing_more c.args.maps.now c.loop-i.i h (omega arith) c.index-maps-i.is e);
    }
