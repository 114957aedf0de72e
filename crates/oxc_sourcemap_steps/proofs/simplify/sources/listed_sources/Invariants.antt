use Rattle.std.proofs.Common.{◌≡◌, map, take}
use Rattle.std.specs.List.{zip}
use Rattle.oxc_sourcemap_steps.specs.SimplifySteps.{source_by}
use Rattle.oxc_sourcemap_steps.proofs.simplify.sources.listed_sources.Given as goal

abbrev pub invariant-loop-i : goal.invariant-loop-i
invariant-loop-i l = l.sources.items ≡ map (source_by (zip l.firsts l.flags)) (take l.i (zip l.firsts l.flags))
