use Rattle.std.proofs.Common.{sym, ap, ◌∙◌, None, Err}
use Rattle.std.specs.Cow.{cow_str_bytes}
use Rattle.serde_json.specs.Read.{read}
use Rattle.serde_json.specs.View.{view}
use Rattle.oxc_sourcemap_tokens.proofs.Carried.{failed-answer}
use Rattle.oxc_sourcemap_found.specs.MendedMaps.{mends_in}
use Rattle.oxc_sourcemap_found.specs.Views.{opened_view}
use Rattle.oxc_sourcemap_found.proofs.FoundSteps.{found-by}
use Rattle.oxc_sourcemap_found.proofs.found.read_text.Goals as goal

pub returns-in_err-parts-clause-map : goal.returns-in_err-parts-clause-map
returns-in_err-parts-clause-map c =
    failed-answer c.from_residual-in_err-parts.result c.in_err-parts.field-0.0 _ _ c.from_residual-in_err-parts.ensures.1
    (λ n. found-by c.args.text.now (opened_view (cow_str_bytes c.in_ok-json.json) c.in_ok-json.kinds) (view c.in-Ok.value) c.in_ok-mends.mends.items (Err c.in_err-parts.field-0.0.error)
    c.in_ok-json.ensures.opened (ap read (sym c.as_str.ensures.value) ∙ c.in-Ok.ensures.ok) (c.in_ok-mends.ensures ∙ ap (mends_in None) c.as_slice.ensures.value)
    (c.in_err-parts.ensures.map.1 n))
