use Rattle.std.proofs.Common.{◌-◌, ◌*◌, ◌/◌, ◌++◌, ℕ, get_or, take, drop, ap, ◌∙◌, sym, arith}
use Rattle.std.proofs.Common.{append_assoc, slice_get, subst, length, nat_le}
use Rattle.std.specs.List.{flat_map, range_with_len}
use Rattle.oxc_sourcemap_compiled.specs.Layout.{block_groups}
use Rattle.oxc_sourcemap_compiled.specs.Compiled.{group_of, no_block, FieldsFit, ArePacked}
use Rattle.oxc_sourcemap_compiled.specs.Compiled.{block_tokens}
use Rattle.oxc_sourcemap_compiled.proofs.Values.{group-fits}
use Rattle.oxc_sourcemap_compiled.proofs.Sizes.{group-there}
use Rattle.oxc_sourcemap_compiled.proofs.Slices.{part-is, flat_map-more}
use Rattle.oxc_sourcemap_compiled.proofs.writing.blocks.push_groups.Goals as goal

pub push_group-requires : goal.push_group-requires
push_group-requires c =
    let tokens = c.args.tokens.now in
    let g = c.loop-g.g in
    let p = block_groups (length tokens) in
    let block = get_or c.args.blocks.now c.block_with.result no_block in
    let there = group-there (nat_le (length tokens) 16384) g (length tokens) c.loop-g-test.true in
    let of_group = c.requires.blocks.each (g / p) no_block (omega (arith, c.requires.blocks.count, there)) in
    let are : ArePacked (block_tokens tokens (g / p)) block = subst (λ b. ArePacked (block_tokens tokens (g / p)) (get_or c.args.blocks.now b no_block)) (sym c.block_with.ensures) of_group in
    let part = part-is tokens (8 * g) 8 c.min-end.result c.min-end.ensures in
    record {
      narrow = record {
        column = are.column.width;
        source = are.source.width;
        src_line = are.src_line.width;
        src_col = are.src_col.width;
        name = are.name.width;
      };
      fits = λ n lt. subst (λ ts. FieldsFit block (slice_get ts n)) (sym part) (group-fits tokens block g n lt are);
    }

pub loop-g-preserved : goal.loop-g-preserved
loop-g-preserved c =
    let tokens = c.args.tokens.now in
    let blocks = c.args.blocks.now in
    let g = c.loop-g.g in
    let f = λ (g : ℕ). group_of (get_or blocks (g / block_groups (length tokens)) no_block) (take 8 (drop (8 * g) tokens)) in
    let part = part-is tokens (8 * g) 8 c.min-end.result c.min-end.ensures in
    let there = ap (λ b. c.loop-g.out.items ++ group_of (get_or blocks b no_block) (take (c.min-end.result - 8 * g) (drop (8 * g) tokens))) c.block_with.ensures in
    c.in_ok-push_group.ensures ∙ there ∙ ap (λ ts. c.loop-g.out.items ++ group_of (get_or blocks (g / block_groups (length tokens)) no_block) ts) part ∙ ap (λ xs. xs ++ f g) c.loop-g.invariant
    ∙ append_assoc c.args.out.now.items (flat_map f (range_with_len 0 g)) (f g) ∙ ap (λ xs. c.args.out.now.items ++ xs) (sym (flat_map-more f g))
