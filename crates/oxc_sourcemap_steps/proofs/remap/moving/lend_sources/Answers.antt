use Rattle.std.proofs.Common.{◌≡◌, ◌∙◌, ◌++◌, ◌∷◌, [], ap, arith, get_or, length, map, slice_get}
use Rattle.std.proofs.Common.{option_map, refl, sym, take, Option, Some, None}
use Rattle.std.proofs.lemmas.List.{get_or-map, length-map, map-append, take_all}
use Rattle.std.proofs.lemmas.Option.{slice_get-map}
use Rattle.std.specs.Cow.{cow_str_bytes}
use Rattle.std.specs.Option.{option_and_then}
use Rattle.oxc_sourcemap_parts.specs.DecodedMap.{sources_of}
use Rattle.oxc_sourcemap_parts.specs.Record.{Text}
use Rattle.oxc_sourcemap_parts.specs.Views.{cow_texts, text_of}
use Rattle.oxc_sourcemap_steps.specs.RemapSteps.{source_record}
use Rattle.oxc_sourcemap_steps.proofs.MovedSources.{one-listed}
use Rattle.oxc_sourcemap_steps.proofs.SourceBlocks.{length-sources_of}
use Rattle.oxc_sourcemap_steps.proofs.remap.moving.lend_sources.Goals as goal

flat : {A : Type 0} (f : A → Option Text) (o : Option A) → option_and_then f o ≡ option_and_then (λ c. c) (option_map f o)
flat f None = refl
flat f (Some x) = refl

pub loop-i-preserved : goal.loop-i-preserved
loop-i-preserved c =
    let paths = c.as_slice-paths.result.now in
    let contents = c.as_slice-contents.result.now in
    let i = c.loop-i.i in
    let so_far = take i (sources_of (cow_texts paths) (map text_of contents)) in
    let count = length-map paths cow_str_bytes in
    let path : c.as_str.result.now ≡ get_or (cow_texts paths) i [] =
    c.as_str.ensures.value ∙ ap cow_str_bytes c.index-paths-i.is ∙ sym (get_or-map cow_str_bytes paths i c.index-paths-i.result [] c.loop-i-test.true) in
    let content : text_of c.content_at-content.result ≡ option_and_then (λ c. c) (slice_get (map text_of contents) i) =
    c.content_at-content.ensures ∙ flat text_of (slice_get contents i) ∙ ap (option_and_then (λ c. c)) (sym (slice_get-map text_of contents i)) in
    ap (map source_record) c.in_ok-push.ensures.items ∙ map-append source_record c.loop-i.sources.items _
    ∙ ap (λ xs. xs ++ record { path = c.as_str.result.now; content = text_of c.content_at-content.result } ∷ []) c.loop-i.invariant
    ∙ ap (λ p. so_far ++ record { path = p; content = text_of c.content_at-content.result } ∷ []) path
    ∙ ap (λ x. so_far ++ record { path = get_or (cow_texts paths) i []; content = x } ∷ []) content
    ∙ sym (one-listed (cow_texts paths) (map text_of contents) i (omega (arith, count, c.loop-i-test.true)))

pub returns : goal.returns
returns c =
    let paths = c.as_slice-paths.result.now in
    let contents = c.as_slice-contents.result.now in
    let count = length-map paths cow_str_bytes in
    let all = length-sources_of (cow_texts paths) (map text_of contents) in
    c.loop-i.invariant ∙ take_all c.loop-i.i (sources_of (cow_texts paths) (map text_of contents)) (omega (arith, count, all, c.loop-i-test.false))
    ∙ ap (λ ps. sources_of (cow_texts ps) (map text_of contents)) c.as_slice-paths.ensures.value
    ∙ ap (λ cs. sources_of (cow_texts c.args.map.now.sources.items) (map text_of cs)) c.as_slice-contents.ensures.value
