use Rattle.std.proofs.Common.{ap, sym, ◌∙◌, option_map}
use Rattle.serde_json.specs.Data.{object}
use Rattle.serde_json.proofs.Views.{view-Object}
use Rattle.oxc_sourcemap_tokens.proofs.Carried.{failed-answer}
use Rattle.oxc_sourcemap_json.specs.JsonRecord.{json_record}
use Rattle.oxc_sourcemap_json.specs.Shape.{shape}
use Rattle.oxc_sourcemap_json.specs.ValuePlaces.{place_at}
use Rattle.oxc_sourcemap_json.proofs.ReadPlaces.{shape-version}
use Rattle.oxc_sourcemap_found.specs.FoundPlaces.{found_spot_in}
use Rattle.oxc_sourcemap_found.specs.Mended.{MendedMembers}
use Rattle.oxc_sourcemap_found.proofs.Placed.{shaped-place}
use Rattle.oxc_sourcemap_found.proofs.mending.plain.mend_plain.Goals as goal

pub returns-in_err-parts-clause-place : goal.returns-in_err-parts-clause-place
returns-in_err-parts-clause-place c =
    let fault = c.in_err-parts.field-0.0 in
    let j = json_record c.in_ok-json.json in
    let is = c.in_ok-json.ensures.fields.0 in
    let same = ap (λ (m : MendedMembers). object m.members) c.in_ok-object.ensures ∙ sym (view-Object c.in_ok-object.object) in
    let spot = ap (λ d. option_map place_at (found_spot_in d (shape d))) same ∙ ap (option_map place_at) (shaped-place _ j _ is c.ignored_field-ignored.ensures) in
    failed-answer c.from_residual-in_err-parts.result fault _ _ c.from_residual-in_err-parts.ensures.1
    (λ n. let h = (c.in_err-parts.ensures.place (shape-version _ j is)).1 n in (spot ∙ h.0, h.1))
