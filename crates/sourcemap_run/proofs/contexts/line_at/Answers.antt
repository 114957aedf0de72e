use Rattle.std.proofs.Common.{◌≡◌, ◌∙◌, None, ap, sym, chars, []}
use Rattle.std.specs.Option.{option_map, unwrap_or}
use Rattle.std.specs.List.{slice_get}
use Rattle.std.proofs.lemmas.Option.{slice_get-map, slice_get_past}
use Rattle.std.proofs.lemmas.Str.{chars-nil}
use Rattle.sourcemap_run.proofs.contexts.line_at.Goals as goal

pub returns-in-None : goal.returns-in-None
returns-in-None c =
    let none : slice_get c.args.lines.now c.args.number ≡ None = slice_get_past c.args.lines.now c.args.number c.in-None.ensures.lookup.3 in
    let no_line = slice_get-map (λ line. chars line.now) c.args.lines.now c.args.number ∙ ap (option_map (λ line. chars line.now)) none in
    chars-nil ∙ ap (λ found. unwrap_or found []) (sym no_line)
