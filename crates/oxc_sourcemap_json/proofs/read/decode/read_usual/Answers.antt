use Rattle.std.proofs.Common.{◌≡◌, arith, ap, sym, ◌∙◌, length}
use Rattle.std.proofs.lemmas.Grind.{common_steps}
use Rattle.oxc_sourcemap_tokens.proofs.Carried.{failed-answer}
use Rattle.oxc_sourcemap_mappings.specs.SegmentPlaces.{mappings_place}
use Rattle.oxc_sourcemap_json.specs.Words.{usual_record, texts_of}
use Rattle.oxc_sourcemap_json.proofs.ReadPlaces.{at-entry, no-entry, at-mappings}
use Rattle.oxc_sourcemap_json.proofs.read.decode.read_usual.Goals as goal

pub returns-in-Some-clause-place : goal.returns-in-Some-clause-place
returns-in-Some-clause-place c =
    let size : c.len.result ≡ length (texts_of c.args.map.sources) = grind (arith, common_steps, c.len.ensures) in (
      tt,
      λ n. (
        at-entry c.args.map.ignored (usual_record c.args.map) c.len.result c.in-Some.fault.place size c.in-Some.ensures.place c.in-Some.ensures.told,
        c.in-Some.ensures.told,
      ),
    )

pub returns-in_err-tokens-clause-place : goal.returns-in_err-tokens-clause-place
returns-in_err-tokens-clause-place c =
    let j = usual_record c.args.map in
    let size : c.len.result ≡ length (texts_of c.args.map.sources) = grind (arith, common_steps, c.len.ensures) in
    let names : c.len-2.result ≡ length (texts_of c.args.map.names) = grind (arith, common_steps, c.len-2.ensures) in
    let sources : c.len-3.result ≡ length (texts_of c.args.map.sources) = grind (arith, common_steps, c.len-3.ensures) in
    failed-answer c.from_residual.result c.in_err-tokens.field-0.0 _ _ c.from_residual.ensures.1
    (λ n. (
      at-mappings c.args.map.ignored j (no-entry c.args.map.ignored j c.len.result size c.in_default.ensures.place)
          ∙ ap (λ k. mappings_place c.args.map.mappings.now k (length j.sources)) (sym names) ∙ ap (λ k. mappings_place c.args.map.mappings.now c.len-2.result k) (sym sources)
          ∙ (c.in_err-tokens.ensures.place.1 n).0,
      (c.in_err-tokens.ensures.place.1 n).1,
    ))

pub returns-clause-place : goal.returns-clause-place
returns-clause-place c =
    let j = usual_record c.args.map in
    let size : c.len.result ≡ length (texts_of c.args.map.sources) = grind (arith, common_steps, c.len.ensures) in
    let names : c.len-2.result ≡ length (texts_of c.args.map.names) = grind (arith, common_steps, c.len-2.ensures) in
    let sources : c.len-3.result ≡ length (texts_of c.args.map.sources) = grind (arith, common_steps, c.len-3.ensures) in (
      at-mappings c.args.map.ignored j (no-entry c.args.map.ignored j c.len.result size c.in_default.ensures.place)
          ∙ ap (λ k. mappings_place c.args.map.mappings.now k (length j.sources)) (sym names) ∙ ap (λ k. mappings_place c.args.map.mappings.now c.len-2.result k) (sym sources)
          ∙ c.in_ok-tokens.ensures.place.0,
      tt,
    )
