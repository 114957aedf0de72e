use Rattle.std.proofs.Common.{◌≡◌, ◌++◌, map, take, option_map}
use Rattle.std.specs.Cow.{cow_str_bytes}
use Rattle.oxc_sourcemap_steps.specs.RemapSteps.{block_sources}
use Rattle.oxc_sourcemap_steps.proofs.remap.lists.add_contents.Given as goal

abbrev pub invariant-loop-i : goal.invariant-loop-i
invariant-loop-i l =
    map (option_map cow_str_bytes) l.contents.items
    ≡ map (option_map cow_str_bytes) l.fn.contents.items ++ map (λ source. source.content) (take l.i (block_sources l.block))
