use Rattle.std.proofs.Common.{◌≡◌, ◌∙◌, ◌+◌, ◌-◌, ap, arith, length, map, take, drop, min}
use Rattle.std.proofs.lemmas.List.{length-map}
use Rattle.std.specs.Cow.{cow_str_bytes}
use Rattle.oxc_sourcemap_parts.specs.DecodedMap.{sources_of}
use Rattle.oxc_sourcemap_parts.specs.Views.{cow_texts, text_of, record_of_parts}
use Rattle.oxc_sourcemap_steps.proofs.SourceBlocks.{own-sources, has-none, has-some, count-flags}
use Rattle.oxc_sourcemap_steps.proofs.remap.blocks.block_at.Goals as goal

pub slice_bounds-result-end-in-None-2 : goal.slice_bounds-result-end-in-None-2
slice_bounds-result-end-in-None-2 c =
    let flags = count-flags (record_of_parts c.args.map.now) in
    let same = ap length c.requires.flags in
    let sources = length-map c.args.map.now.sources.items cow_str_bytes in
    omega (arith, flags, same, sources, c.requires.source)

pub returns-in-Some-clause-sources : goal.returns-in-Some-clause-sources
returns-in-Some-clause-sources c =
    has-some (record_of_parts c.args.map.now) c.args.i c.args.input c.in-Some.found _ c.in-Some.is
    (ap (λ ps. sources_of (cow_texts ps) (map text_of c.as_slice-in-Some.result.now)) c.as_slice.ensures.value
    ∙ ap (λ cs. sources_of (cow_texts c.in-Some.found.now.map.now.sources.items) (map text_of cs)) c.as_slice-in-Some.ensures.value)
    c.as_slice-in-Some-2.ensures.value

pub returns-in-None-clause-sources : goal.returns-in-None-clause-sources
returns-in-None-clause-sources c =
    let i = c.args.i in
    let contents = ap length c.as_slice-contents.ensures.value in
    let one : (i + 1) - i ≡ 1 = omega arith in
    has-none (record_of_parts c.args.map.now) i c.args.input _ c.in-None.is
    (own-sources c.args.map.now.sources.items _ c.args.map.now.source_contents.items _ i _ c.min.result (length c.as_slice-contents.result.now) one
    (ap (λ ps. take ((i + 1) - i) (drop i ps)) c.as_slice-in-None.ensures.value) (c.min.ensures ∙ ap (min i) contents) contents
    (ap (λ cs. take (length c.as_slice-contents.result.now - c.min.result) (drop c.min.result cs)) c.as_slice-contents.ensures.value))
    (ap (λ n. take n (drop i c.args.ignored.now)) one ∙ ap (λ fs. take 1 (drop i fs)) c.requires.flags)
