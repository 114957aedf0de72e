use Rattle.std.proofs.Common.{◌≡◌, map, take, option_map}
use Rattle.std.specs.Cow.{cow_str_bytes}
use Rattle.std.specs.List.{flat_map}
use Rattle.oxc_sourcemap_steps.specs.RemapSteps.{block_sources}
use Rattle.oxc_sourcemap_steps.proofs.remap.lists.content_list.Given as goal

abbrev pub invariant-loop-block : goal.invariant-loop-block
invariant-loop-block l =
    map (option_map cow_str_bytes) l.contents.items
    ≡ flat_map (λ b. map (λ source. source.content) (block_sources b)) (take l.block-index l.blocks)
