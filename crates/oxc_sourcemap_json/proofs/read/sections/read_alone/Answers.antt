use Rattle.std.proofs.Common.{ap, sym, ◌∙◌, subst, option_map}
use Rattle.serde_json.specs.View.{view}
use Rattle.oxc_sourcemap_json.specs.JsonRecord.{json_record}
use Rattle.oxc_sourcemap_json.specs.Words.{Locates, place_at, fields_spot}
use Rattle.oxc_sourcemap_json.proofs.ReadPlaces.{shape-version, spot-is}
use Rattle.oxc_sourcemap_json.proofs.read.sections.read_alone.Goals as goal

pub returns-clause-place : goal.returns-clause-place
returns-clause-place c =
    let d = view c.args.value in
    let j = json_record c.in_ok-json.json in
    let is = c.in_ok-json.ensures.fields.0 in
    subst (λ o. Locates c.read_fields.result (option_map place_at o)) (ap (λ i. fields_spot i j) c.ignored_field-ignored.ensures ∙ sym (spot-is d j is))
    (c.read_fields.ensures.place (shape-version d j is))
