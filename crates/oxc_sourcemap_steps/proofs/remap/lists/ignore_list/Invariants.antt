use Rattle.std.proofs.Common.{◌≡◌, take}
use Rattle.oxc_sourcemap_steps.specs.RemapSteps.{block_ids}
use Rattle.oxc_sourcemap_steps.proofs.remap.lists.ignore_list.Given as goal

abbrev pub invariant-loop-block : goal.invariant-loop-block
invariant-loop-block l = l.ids.items ≡ block_ids (take l.block-index l.blocks)
