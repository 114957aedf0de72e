use Rattle.std.proofs.Common.{◌≡◌, map, take}
use Rattle.std.specs.Cow.{cow_str_bytes}
use Rattle.std.specs.List.{flat_map}
use Rattle.oxc_sourcemap_steps.proofs.remap.lists.source_list.Given as goal

abbrev pub invariant-loop-block : goal.invariant-loop-block
invariant-loop-block l = map cow_str_bytes l.sources.items ≡ flat_map (λ b. map cow_str_bytes b.sources.now) (take l.block-index l.blocks)
