use Rattle.std.proofs.Common.{◌≡◌, ◌∙◌, ◌++◌, ◌∷◌, [], refl, sym, ap, map, option_map, take}
use Rattle.std.proofs.Common.{slice_get, Option, Some, None, append_assoc, arith}
use Rattle.std.proofs.lemmas.List.{map-append, length-map, take_all}
use Rattle.std.proofs.lemmas.Option.{slice_get-map}
use Rattle.std.specs.Cow.{cow_str_bytes}
use Rattle.std.specs.Option.{option_and_then}
use Rattle.oxc_sourcemap_parts.specs.Record.{Text}
use Rattle.oxc_sourcemap_parts.specs.Views.{cow_texts, text_of}
use Rattle.oxc_sourcemap_steps.specs.RemapSteps.{block_sources}
use Rattle.oxc_sourcemap_steps.proofs.SourceBlocks.{one-content, count-sources}
use Rattle.oxc_sourcemap_steps.proofs.remap.lists.add_contents.Goals as goal

flat : {A : Type 0} (f : A → Option Text) (o : Option A) → option_and_then f o ≡ option_and_then (λ c. c) (option_map f o)
flat f None = refl
flat f (Some x) = refl

pub loop-i-preserved : goal.loop-i-preserved
loop-i-preserved c =
    let b = c.args.block.now in
    let i = c.loop-i.i in
    let old = map text_of c.args.contents.now.items in
    let before = map (λ s. s.content) (take i (block_sources b)) in
    let count = length-map b.sources.now cow_str_bytes in
    let content : text_of c.content_at.result ≡ option_and_then (λ c. c) (slice_get (map text_of b.contents.now) i) =
    c.content_at.ensures ∙ flat text_of (slice_get b.contents.now i) ∙ ap (option_and_then (λ c. c)) (sym (slice_get-map text_of b.contents.now i)) in
    let more = one-content (cow_texts b.sources.now) (map text_of b.contents.now) i (omega (arith, count, c.loop-i-test.true)) in
    ap (map text_of) c.in_ok-push.ensures.items ∙ map-append text_of c.loop-i.contents.items (c.content_at.result ∷ [])
    ∙ ap (λ xs. xs ++ text_of c.content_at.result ∷ []) c.loop-i.invariant ∙ append_assoc old before (text_of c.content_at.result ∷ [])
    ∙ ap (λ x. old ++ (before ++ x ∷ [])) content ∙ ap (λ xs. old ++ xs) (sym more)

pub returns : goal.returns
returns c =
    let b = c.args.block.now in
    let all : take c.loop-i.i (block_sources b) ≡ block_sources b = take_all c.loop-i.i (block_sources b) (omega (arith, count-sources b, c.loop-i-test.false)) in
    c.loop-i.invariant ∙ ap (λ ss. map text_of c.args.contents.now.items ++ map (λ s. s.content) ss) all
