use Rattle.std.proofs.Common.{◌∙◌, sym}
use Rattle.std.proofs.lemmas.Str.{chars_past_char}
use Rattle.oxc_sourcemap_text.proofs.url.line.strip_char.Goals as goal

pub returns-then-first-ch-clause-some : goal.returns-then-first-ch-clause-some
returns-then-first-ch-clause-some c =
    let past = chars_past_char c.args.text.now _ c.in_ok-first.first c.utf8.text (sym c.chars-rest.ensures.rest ∙ c.in_ok-first.ensures.steps.0) in
    cc (c.as_str.ensures, c.if-first-ch.true)
