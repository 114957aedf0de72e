use Rattle.std.proofs.Common.{◌≡◌, ◌≢◌, None, drop}
use Rattle.oxc_sourcemap_c.specs.MapsOfMaps.{all_lent, all_maps}
use Rattle.oxc_sourcemap_c.proofs.making.maps_of_maps.all_lengths.Given as goal

abbrev pub invariant-loop-i : goal.invariant-loop-i
invariant-loop-i l = record {
  there : all_maps (all_lent (drop l.i l.maps)) ≢ None → all_maps (all_lent l.maps) ≢ None;
  missing : all_maps (all_lent (drop l.i l.maps)) ≡ None → all_maps (all_lent l.maps) ≡ None;
}
