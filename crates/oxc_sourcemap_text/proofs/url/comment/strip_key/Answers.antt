use Rattle.std.proofs.Common.{◌++◌, ◌∙◌, ap, sym}
use Rattle.std.specs.Str.{chars}
use Rattle.oxc_sourcemap_text.proofs.Chars.{key, chars-key, no-key}
use Rattle.oxc_sourcemap_text.proofs.url.comment.strip_key.Goals as goal

pub returns-in-Some-clause-some : goal.returns-in-Some-clause-some
returns-in-Some-clause-some c =
    let found = c.in-Some.ensures.cases in
    ap chars (found.1.1 ∙ ap (λ l. key ++ l) (sym found.2)) ∙ chars-key c.in-Some.rest.now

pub returns-in-None-clause-none : goal.returns-in-None-clause-none
returns-in-None-clause-none c = λ _. no-key c.args.text.now c.utf8.text c.in-None.ensures.cases
