use Rattle.std.proofs.Common.{◌≡◌, map, option_map, take}
use Rattle.oxc_sourcemap_text.specs.TextLines.{lines_of}
use Rattle.oxc_sourcemap_map.proofs.sourcemap_visualizer.cut_contents.Given as goal

abbrev pub invariant-loop-content : goal.invariant-loop-content
invariant-loop-content l = l.lines.items ≡ map (option_map (λ units. lines_of units.items)) (take l.content-index l.contents)
