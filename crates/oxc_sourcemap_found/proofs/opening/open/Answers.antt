use Rattle.std.proofs.Common.{◌≡◌, ◌∙◌, List, refl, sym, ap, option_map}
use Rattle.std.specs.String.{string_bytes}
use Rattle.oxc_sourcemap_parts.specs.Record.{Text}
use Rattle.oxc_sourcemap_found.specs.declared.mending.mend.MendKind.{MendKind}
use Rattle.oxc_sourcemap_found.specs.Opening.{Opened, as_given, without_mark, without_prefix}
use Rattle.oxc_sourcemap_found.specs.Views.{opened_view}
use Rattle.oxc_sourcemap_found.proofs.Counted.{lent-json}
use Rattle.oxc_sourcemap_found.proofs.opening.open.Goals as goal

abbrev opened_as : Text → List MendKind → Opened
opened_as text kinds = record { text = text; kinds = kinds }

pub returns-in-None-clause-json : goal.returns-in-None-clause-json
returns-in-None-clause-json c =
    let text = c.args.text.now in
    let given : opened_view text c.new-kinds.result ≡ as_given text = ap (λ (ks : List MendKind). opened_as text ks) c.new-kinds.ensures.items in
    let rest = c.in_ok-text-2.text.now in
    lent-json text rest (opened_view rest c.skip_prefix.new.kinds) (c.in_ok-text-2.ensures ∙ ap without_prefix (c.in_ok-text.ensures ∙ ap without_mark given)) refl
    (sym c.in_ok-json.ensures ∙ ap (option_map string_bytes) c.in-None.is)
