use Rattle.std.proofs.Common.{◌≡◌, ◌++◌, map, option_map}
use Rattle.oxc_sourcemap_text.specs.TextLines.{units_of}
use Rattle.oxc_sourcemap_map.proofs.sourcemap_visualizer.content_units.Given as goal

abbrev pub invariant-loop-content : goal.invariant-loop-content
invariant-loop-content l = map (option_map (λ units. units.items)) l.units.items ++ map (option_map units_of) l.content-iterator ≡ map (option_map units_of) l.fn.contents
