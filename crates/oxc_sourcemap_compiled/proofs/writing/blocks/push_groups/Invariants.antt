use Rattle.std.proofs.Common.{◌≡◌, ◌++◌, ◌*◌, ◌/◌, take, drop, get_or, length}
use Rattle.std.specs.List.{flat_map, range_with_len}
use Rattle.oxc_sourcemap_compiled.specs.Compiled.{group_of, no_block}
use Rattle.oxc_sourcemap_compiled.specs.Layout.{block_groups}
use Rattle.oxc_sourcemap_compiled.proofs.writing.blocks.push_groups.Given as goal

abbrev pub invariant-loop-g : goal.invariant-loop-g
invariant-loop-g l = l.out.items ≡ l.initial.out.items ++ flat_map (λ g. group_of (get_or l.blocks (g / block_groups (length l.tokens)) no_block) (take 8 (drop (8 * g) l.tokens))) (range_with_len 0 l.g)
