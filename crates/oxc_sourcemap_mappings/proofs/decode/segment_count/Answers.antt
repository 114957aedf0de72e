use Rattle.std.proofs.Common.{arith, ◌≡◌, ◌+◌, ◌++◌, ap, sym, [], ◌∙◌, false, drop}
use Rattle.std.proofs.lemmas.List.{take-append-drop, append-nil}
use Rattle.oxc_sourcemap_mappings.specs.Decoding.{segments_after}
use Rattle.oxc_sourcemap_mappings.proofs.Room.{segments-le}
use Rattle.oxc_sourcemap_mappings.proofs.decode.segment_count.Goals as goal

pub overflow_add-count : goal.overflow_add-count
overflow_add-count c =
    let rest = c.loop-rest.rest.now in
    let block : segments_after c.loop-rest.is_inside rest ≡ c.segments_in_block.result + segments_after c.segments_in_block.new.is_inside (drop 128 rest) =
    ap (segments_after c.loop-rest.is_inside) (sym (take-append-drop 128 rest) ∙ ap (λ front. front ++ drop 128 rest) (sym c.split_at.ensures.front)) ∙ c.segments_in_block.ensures (drop 128 rest) in
    omega (arith, segments-le false c.args.text.now, c.loop-rest.invariant, c.from-count.ensures, block)

pub loop-rest-preserved : goal.loop-rest-preserved
loop-rest-preserved c =
    let rest = c.loop-rest.rest.now in
    let block : segments_after c.loop-rest.is_inside rest ≡ c.segments_in_block.result + segments_after c.segments_in_block.new.is_inside (drop 128 rest) =
    ap (segments_after c.loop-rest.is_inside) (sym (take-append-drop 128 rest) ∙ ap (λ front. front ++ drop 128 rest) (sym c.split_at.ensures.front)) ∙ c.segments_in_block.ensures (drop 128 rest) in
    omega (arith, c.loop-rest.invariant, c.from-count.ensures, block, ap (segments_after c.segments_in_block.new.is_inside) c.split_at.ensures.back)

pub returns : goal.returns
returns c =
    let rest = c.loop-rest.rest.now in
    omega (arith, c.loop-rest.invariant, c.from.ensures, c.segments_in_block-2.ensures [], ap (segments_after c.loop-rest.is_inside) (append-nil rest))

pub overflow_add-result : goal.overflow_add-result
overflow_add-result c =
    let rest = c.loop-rest.rest.now in
    omega (arith, segments-le false c.args.text.now, c.loop-rest.invariant, c.from.ensures, c.segments_in_block-2.ensures [], ap (segments_after c.loop-rest.is_inside) (append-nil rest))
