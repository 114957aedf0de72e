use Rattle.std.proofs.Common.{◌≡◌, map}
use Rattle.oxc_sourcemap_parts.specs.Views.{record_of_parts}
use Rattle.oxc_sourcemap_steps.specs.Remapped.{listed_sources}
use Rattle.oxc_sourcemap_steps.specs.RemapSteps.{source_lists}
use Rattle.oxc_sourcemap_steps.proofs.remap.moving.take_all_sources.Given as goal

abbrev pub invariant-loop-map : goal.invariant-loop-map
invariant-loop-map l = source_lists l.lists.items ≡ map (λ input. listed_sources (record_of_parts input.1)) l.yielded
