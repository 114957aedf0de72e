use Rattle.std.proofs.Common.{◌≡◌, map, take}
use Rattle.oxc_sourcemap_parts.specs.DecodedMap.{sources_of}
use Rattle.oxc_sourcemap_parts.specs.Views.{cow_texts, text_of}
use Rattle.oxc_sourcemap_steps.specs.RemapSteps.{source_records}
use Rattle.oxc_sourcemap_steps.proofs.remap.moving.lend_sources.Given as goal

abbrev pub invariant-loop-i : goal.invariant-loop-i
invariant-loop-i l = source_records l.sources.items ≡ take l.i (sources_of (cow_texts l.paths) (map text_of l.contents))
