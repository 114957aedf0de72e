use Rattle.std.proofs.Common.{map, take}
use Rattle.std.specs.Cow.{cow_str_bytes}
use Rattle.oxc_sourcemap_steps.specs.InheritSteps.{HasIndices}
use Rattle.oxc_sourcemap_steps.proofs.compose.inherited_names.fill_indices.Given as goal

abbrev pub invariant-loop-i : goal.invariant-loop-i
invariant-loop-i l = HasIndices (map cow_str_bytes (take l.i l.names)) l.places
