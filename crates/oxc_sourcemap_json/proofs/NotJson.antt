-- A text that is not JSON is refused.
use Rattle.std.proofs.Common.{◌≡◌, true, ap, ◌∙◌, None}
use Rattle.std.specs.Result.{is_err}
use Rattle.serde_json.specs.Read.{read}
use Rattle.oxc_sourcemap_parts.specs.Record.{Text}
use Rattle.oxc_sourcemap_json.specs.ReadMap.{map_of_form, form_of_json, read_map}
use Rattle.oxc_sourcemap_json.proofs.WellRead.{read_is_form}

pub nothing-read : (text : Text) → read text ≡ None → is_err (read_map text) ≡ true
nothing-read text e = ap is_err (read_is_form text ∙ ap (λ o. map_of_form (form_of_json o)) e)
