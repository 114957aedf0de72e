use Rattle.std.proofs.Common.{◌≡◌, ◌++◌, drop}
use Rattle.oxc_sourcemap_tokens.specs.Results.{lent_items}
use Rattle.oxc_sourcemap_steps.specs.Inputs.{lent_inputs}
use Rattle.oxc_sourcemap_c.specs.MapsOfMaps.{by_path}
use Rattle.oxc_sourcemap_c.proofs.making.maps_of_maps.with_paths.Given as goal

abbrev pub invariant-loop-i : goal.invariant-loop-i
invariant-loop-i l = lent_inputs l.inputs.items ++ by_path (lent_items (drop l.i l.paths)) (lent_items (drop l.i l.maps)) ≡ by_path (lent_items l.paths) (lent_items l.maps)
