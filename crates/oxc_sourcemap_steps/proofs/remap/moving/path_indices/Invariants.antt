use Rattle.std.proofs.Common.{take}
use Rattle.oxc_sourcemap_steps.specs.InheritSteps.{HasIndices}
use Rattle.oxc_sourcemap_steps.proofs.MovedSources.{paths_of}
use Rattle.oxc_sourcemap_steps.proofs.remap.moving.path_indices.Given as goal

abbrev pub invariant-loop-i : goal.invariant-loop-i
invariant-loop-i l = HasIndices (paths_of (take l.i l.inputs)) l.places
