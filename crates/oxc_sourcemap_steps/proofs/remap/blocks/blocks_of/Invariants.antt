use Rattle.std.proofs.Common.{◌≡◌, take}
use Rattle.oxc_sourcemap_parts.specs.DecodedMap.{decoded_map_of}
use Rattle.oxc_sourcemap_parts.specs.Views.{record_of_parts}
use Rattle.oxc_sourcemap_steps.specs.Blocks.{marked_sources}
use Rattle.oxc_sourcemap_steps.specs.RemapSteps.{ready_records, AreBlocksFrom}
use Rattle.oxc_sourcemap_steps.proofs.SourceBlocks.{total}
use Rattle.oxc_sourcemap_steps.proofs.remap.blocks.blocks_of.Given as goal

abbrev pub invariant-loop-i : goal.invariant-loop-i
invariant-loop-i l = record {
  each : AreBlocksFrom (ready_records l.inputs) 0 (take l.i (marked_sources (decoded_map_of (record_of_parts l.map)))) l.blocks.items;
  start : l.start ≡ total (ready_records l.inputs) l.blocks.items;
}
