use Rattle.std.proofs.Common.{◌≡◌, ◌∙◌, ◌+◌, ◌++◌, ◌∷◌, ◌≤◌, [], sym, ap, subst, map, length, take}
use Rattle.std.proofs.Common.{slice_get, Some, arith}
use Rattle.std.proofs.lemmas.List.{length-map, take_all}
use Rattle.std.proofs.lemmas.Result.{err_from_is_err_and}
use Rattle.std.specs.Cow.{cow_str_bytes}
use Rattle.oxc_sourcemap_parts.specs.DecodedMap.{decoded_map_of}
use Rattle.oxc_sourcemap_parts.specs.Views.{record_of_parts}
use Rattle.oxc_sourcemap_steps.proofs.KeptNames.{name_at}
use Rattle.oxc_sourcemap_steps.specs.Blocks.{marked_sources}
use Rattle.oxc_sourcemap_steps.specs.RemapSteps.{ready_records, IsFor, IsBlock, AreBlocksFrom}
use Rattle.oxc_sourcemap_steps.proofs.Indices.{take-one}
use Rattle.oxc_sourcemap_steps.proofs.SourceBlocks.{marked-at, is-block, one-more, total}
use Rattle.oxc_sourcemap_steps.proofs.SourceBlocks.{total-last, past-all, count-all-marked}
use Rattle.oxc_sourcemap_steps.proofs.remap.blocks.blocks_of.Goals as goal

pub returns-in_err-start-clause-error : goal.returns-in_err-start-clause-error
returns-in_err-start-clause-error c =
    let inputs = ready_records c.args.inputs.now in
    let a = record_of_parts c.args.map.now in
    let i = c.loop-i.i in
    let path = cow_str_bytes c.index-paths-i.result in
    let here : slice_get a.sources i ≡ Some path =
    ap (λ ps. slice_get (map cow_str_bytes ps) i) (sym c.as_slice-paths.ensures.value) ∙ name_at cow_str_bytes c.as_slice-paths.result.now i c.index-paths-i.result c.loop-i-test.true c.index-paths-i.is in
    let source = marked-at a i path here in
    let for : IsFor inputs source.0.0.path c.input_at-input.result = subst (λ p. IsFor inputs p c.input_at-input.result) (c.as_str.ensures.value ∙ sym source.2) c.input_at-input.ensures in
    let p = err_from_is_err_and c.from_residual-in_err-start.result c.from_residual-in_err-start.ensures.1 in
    rw (p.1, p.2) (λ other. (
      c.in_err-start.ensures.error.0,
      past-all inputs a c.loop-i.blocks.items i source.0 c.block_at-block.result c.input_at-input.result c.loop-i.invariant.each source.1 for c.block_at-block.ensures.sources
          (omega (arith, c.in_err-start.ensures.error.1, c.block_at-block.ensures.start, c.loop-i.invariant.start)),
    ))

pub loop-i-preserved : goal.loop-i-preserved
loop-i-preserved c =
    let inputs = ready_records c.args.inputs.now in
    let a = record_of_parts c.args.map.now in
    let i = c.loop-i.i in
    let bs = c.loop-i.blocks.items in
    let b = c.block_at-block.result in
    let path = cow_str_bytes c.index-paths-i.result in
    let here : slice_get a.sources i ≡ Some path =
    ap (λ ps. slice_get (map cow_str_bytes ps) i) (sym c.as_slice-paths.ensures.value) ∙ name_at cow_str_bytes c.as_slice-paths.result.now i c.index-paths-i.result c.loop-i-test.true c.index-paths-i.is in
    let source = marked-at a i path here in
    let for : IsFor inputs source.0.0.path c.input_at-input.result = subst (λ p. IsFor inputs p c.input_at-input.result) (c.as_str.ensures.value ∙ sym source.2) c.input_at-input.ensures in
    let room : c.loop-i.start + length b.sources.now ≤ 4294967295 = omega (arith, c.in_ok-start.ensures.end, c.block_at-block.ensures.start) in
    let is : IsBlock inputs c.loop-i.start source.0 b =
    is-block inputs a i c.loop-i.start source.0 b c.input_at-input.result source.1 for c.block_at-block.ensures.sources c.block_at-block.ensures.start c.block_at-block.ensures.input room in
    let more : take (i + 1) (marked_sources (decoded_map_of a)) ≡ take i (marked_sources (decoded_map_of a)) ++ source.0 ∷ [] = take-one (marked_sources (decoded_map_of a)) i source.0 source.1 in
    let all : AreBlocksFrom inputs 0 (take i (marked_sources (decoded_map_of a)) ++ source.0 ∷ []) (bs ++ b ∷ []) =
    one-more inputs 0 c.loop-i.start (take i (marked_sources (decoded_map_of a))) bs source.0 b c.loop-i.invariant.each (omega (arith, c.loop-i.invariant.start)) is in
    let last = total-last inputs bs b in record {
      each = subst (λ ms. AreBlocksFrom inputs 0 ms c.push.new.self.items) (sym more)
          (subst (AreBlocksFrom inputs 0 (take i (marked_sources (decoded_map_of a)) ++ source.0 ∷ [])) (sym c.in_ok-push.ensures.items) all);
      start = omega (arith, c.in_ok-start.ensures.end, c.block_at-block.ensures.start, c.loop-i.invariant.start, last) ∙ sym (ap (total inputs) c.in_ok-push.ensures.items);
    }

pub returns-clause-made : goal.returns-clause-made
returns-clause-made c =
    let inputs = ready_records c.args.inputs.now in
    let a = record_of_parts c.args.map.now in
    let paths = ap length c.as_slice-paths.ensures.value in
    let items = length-map c.args.map.now.sources.items cow_str_bytes in
    let count = count-all-marked a in
    let all : take c.loop-i.i (marked_sources (decoded_map_of a)) ≡ marked_sources (decoded_map_of a) =
    take_all c.loop-i.i (marked_sources (decoded_map_of a)) (omega (arith, paths, items, count, c.loop-i-test.false)) in
    subst (λ ms. AreBlocksFrom inputs 0 ms c.loop-i.blocks.items) all c.loop-i.invariant.each
