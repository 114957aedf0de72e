use Rattle.std.proofs.Common.{◌≡◌, drop}
use Rattle.oxc_sourcemap_join.specs.Joined.{nothing_joined}
use Rattle.oxc_sourcemap_c.proofs.MapsOfMaps.{joined_with}
use Rattle.oxc_sourcemap_c.proofs.making.maps_of_maps.add_all.Given as goal

abbrev pub invariant-loop-i : goal.invariant-loop-i
invariant-loop-i l = joined_with l.joined (drop l.i l.maps) (drop l.i l.positions) ≡ joined_with nothing_joined l.maps l.positions
