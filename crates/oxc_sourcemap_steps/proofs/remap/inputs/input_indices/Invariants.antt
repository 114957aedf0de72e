use Rattle.std.proofs.Common.{take}
use Rattle.oxc_sourcemap_steps.specs.InheritSteps.{HasIndices}
use Rattle.oxc_sourcemap_steps.specs.RemapSteps.{input_paths}
use Rattle.oxc_sourcemap_steps.proofs.remap.inputs.input_indices.Given as goal

abbrev pub invariant-loop-i : goal.invariant-loop-i
invariant-loop-i l = HasIndices (input_paths (take l.i l.inputs)) l.places
