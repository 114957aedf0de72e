use Rattle.std.proofs.Common.{List, ℕ, sym, ap, ◌∙◌, option_map}
use Rattle.std.specs.Box.{boxed_slice_items}
use Rattle.std.specs.String.{string_bytes}
use Rattle.oxc_sourcemap_json.specs.JsonRecord.{json_record}
use Rattle.oxc_sourcemap_mappings.specs.Reading.{reading}
use Rattle.oxc_sourcemap_mappings.specs.SegmentPlaces.{mappings_place}
use Rattle.oxc_sourcemap_parts.specs.Views.{record_of_parts}
use Rattle.oxc_sourcemap_tokens.proofs.Carried.{failed-answer}
use Rattle.oxc_sourcemap_json.specs.Decoded.{decoded}
use Rattle.oxc_sourcemap_json.specs.ValuePlaces.{place_at, fields_spot}
use Rattle.oxc_sourcemap_found.proofs.AnyIds.{any_ok, any_fault, any_text_fault}
use Rattle.oxc_sourcemap_found.proofs.Placed.{bare-fault, then-mappings}
use Rattle.oxc_sourcemap_found.proofs.mending.plain.read_with_any_ids.Goals as goal

pub returns-in_err-parts-clause-map : goal.returns-in_err-parts-clause-map
returns-in_err-parts-clause-map c =
    let empty = ap string_bytes c.replace-mappings.ensures.after ∙ c.new.ensures.bytes in
    failed-answer c.from_residual.result c.in_err-parts.field-0.0 _ _ c.from_residual.ensures.1
    (λ n. any_fault (json_record c.args.json) c.in_err-parts.field-0.0.error
    (ap (λ (m : List ℕ). decoded (record (json_record c.args.json) { mappings = m })) (sym empty) ∙ c.in_err-parts.ensures.map.1 n))

pub returns-in_err-parts-clause-place : goal.returns-in_err-parts-clause-place
returns-in_err-parts-clause-place c = λ three.
    let j = json_record c.args.json in
    let fault = c.in_err-parts.field-0.0 in
    let empty = ap string_bytes c.replace-mappings.ensures.after ∙ c.new.ensures.bytes in
    failed-answer c.from_residual.result fault _ _ c.from_residual.ensures.1
    (λ n. let h = (c.in_err-parts.ensures.place three).1 n in (
      bare-fault c.args.ignored j fault.place
          (ap (λ (m : List ℕ). option_map place_at (fields_spot c.args.ignored (record j { mappings = m }))) (sym empty) ∙ h.0) h.1,
      h.1,
    ))

pub returns-in_err-parts-2-clause-map : goal.returns-in_err-parts-2-clause-map
returns-in_err-parts-2-clause-map c =
    let empty = ap string_bytes c.replace-mappings.ensures.after ∙ c.new.ensures.bytes in
    let text = c.as_str.ensures.value ∙ ap string_bytes c.replace-mappings.ensures.value in
    failed-answer c.from_residual-in_err-parts-2.result c.in_err-parts-2.field-0.0 _ _ c.from_residual-in_err-parts-2.ensures.1
    (λ n. any_text_fault (json_record c.args.json) (record_of_parts c.in_ok-parts.parts) c.in_err-parts-2.field-0.0.error
    (ap (λ (m : List ℕ). decoded (record (json_record c.args.json) { mappings = m })) (sym empty) ∙ c.in_ok-parts.ensures.map.0)
    (ap (λ (t : List ℕ). reading t 4294967295 4294967295) (sym text) ∙ c.in_err-parts-2.ensures.tokens.1 n))

pub returns-in_err-parts-2-clause-place : goal.returns-in_err-parts-2-clause-place
returns-in_err-parts-2-clause-place c = λ three.
    let j = json_record c.args.json in
    let empty = ap string_bytes c.replace-mappings.ensures.after ∙ c.new.ensures.bytes in
    let text = c.as_str.ensures.value ∙ ap string_bytes c.replace-mappings.ensures.value in
    let none = ap (λ (m : List ℕ). option_map place_at (fields_spot c.args.ignored (record j { mappings = m }))) (sym empty) ∙ (c.in_ok-parts.ensures.place three).0 in
    failed-answer c.from_residual-in_err-parts-2.result c.in_err-parts-2.field-0.0 _ _ c.from_residual-in_err-parts-2.ensures.1
    (λ n. let h = c.in_err-parts-2.ensures.place.1 n in (
      then-mappings c.args.ignored j none ∙ ap (λ (t : List ℕ). mappings_place t 4294967295 4294967295) (sym text) ∙ h.0,
      h.1,
    ))

pub returns-clause-map : goal.returns-clause-map
returns-clause-map c =
    let empty = ap string_bytes c.replace-mappings.ensures.after ∙ c.new.ensures.bytes in
    let text = c.as_str.ensures.value ∙ ap string_bytes c.replace-mappings.ensures.value in (
      any_ok (json_record c.args.json) (record_of_parts c.in_ok-parts.parts) (boxed_slice_items c.in_ok-parts-2.field-0)
          (ap (λ (m : List ℕ). decoded (record (json_record c.args.json) { mappings = m })) (sym empty) ∙ c.in_ok-parts.ensures.map.0)
          (ap (λ (t : List ℕ). reading t 4294967295 4294967295) (sym text) ∙ c.in_ok-parts-2.ensures.tokens.0),
      tt,
    )

pub returns-clause-place : goal.returns-clause-place
returns-clause-place c = λ three.
    let j = json_record c.args.json in
    let empty = ap string_bytes c.replace-mappings.ensures.after ∙ c.new.ensures.bytes in
    let text = c.as_str.ensures.value ∙ ap string_bytes c.replace-mappings.ensures.value in
    let none = ap (λ (m : List ℕ). option_map place_at (fields_spot c.args.ignored (record j { mappings = m }))) (sym empty) ∙ (c.in_ok-parts.ensures.place three).0 in (
      then-mappings c.args.ignored j none ∙ ap (λ (t : List ℕ). mappings_place t 4294967295 4294967295) (sym text) ∙ c.in_ok-parts-2.ensures.place.0,
      tt,
    )
