use Rattle.std.proofs.Common.{◌≡◌, drop}
use Rattle.oxc_sourcemap_map.specs.VisualText.{src_end}
use Rattle.oxc_sourcemap_map.proofs.sourcemap_visualizer.src_end.Given as goal

abbrev pub invariant-loop-other : goal.invariant-loop-other
invariant-loop-other l = src_end l.len l.id l.token (drop l.other-index l.after) ≡ src_end l.len l.id l.token l.after
