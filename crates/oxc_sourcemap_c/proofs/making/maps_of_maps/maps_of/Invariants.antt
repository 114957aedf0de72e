use Rattle.std.proofs.Common.{◌≡◌, drop}
use Rattle.oxc_sourcemap_tokens.specs.Results.{lent_items}
use Rattle.oxc_sourcemap_c.specs.MapsOfMaps.{all_lent, all_maps}
use Rattle.oxc_sourcemap_c.proofs.MapsOfMaps.{after}
use Rattle.oxc_sourcemap_c.proofs.making.maps_of_maps.maps_of.Given as goal

abbrev pub invariant-loop-i : goal.invariant-loop-i
invariant-loop-i l = after (lent_items l.maps.items) (all_maps (all_lent (drop l.i l.lent))) ≡ all_maps (all_lent l.lent)
