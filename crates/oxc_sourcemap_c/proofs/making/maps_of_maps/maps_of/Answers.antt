use Rattle.std.proofs.Common.{arith}
use Rattle.oxc_sourcemap_c.specs.MapsOfMaps.{all_lent, all_maps}
use Rattle.oxc_sourcemap_c.proofs.MapsOfMaps.{found_more}
use Rattle.oxc_sourcemap_c.proofs.making.maps_of_maps.maps_of.Goals as goal

pub loop-i-preserved : goal.loop-i-preserved
loop-i-preserved c =
    found_more c.args.lent.now c.loop-i.i c.index-lent-i.result c.in_ok-lent_map.field-0 c.loop-i.maps.items c.push.new.self.items (all_maps (all_lent c.args.lent.now)) (omega arith)
    c.index-lent-i.is c.in_ok-lent_map.ensures.map c.in_ok-push.ensures.items c.loop-i.invariant
