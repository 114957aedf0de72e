use Rattle.std.proofs.Common.{ap, sym, ◌∙◌, false}
use Rattle.std.specs.Option.{option_map_or}
use Rattle.oxc_sourcemap_join.proofs.Moving.{last-slice_get}
use Rattle.oxc_sourcemap_found.specs.MendedSections.{is_behind}
use Rattle.oxc_sourcemap_found.proofs.mending.cut.reaches_into.Goals as goal

pub returns-in-Some : goal.returns-in-Some
returns-in-Some c =
    c.is_behind.ensures
    ∙ ap (λ o. option_map_or (is_behind c.args.next c.args.offset) o false) (c.in-Some.ensures.value ∙ sym (last-slice_get c.args.tokens.now))
