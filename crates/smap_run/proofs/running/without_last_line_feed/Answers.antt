use Rattle.std.proofs.Common.{◌∙◌, ap, refl, lit<}
use Rattle.std.proofs.lemmas.Str.Pattern.{strip_suffix_char}
use Rattle.smap_run.proofs.Texts.{stripped}
use Rattle.smap_run.proofs.running.without_last_line_feed.Goals as goal

pub returns : goal.returns
returns c =
    ap (λ text. text.now) c.unwrap_or.ensures
    ∙ stripped c.args.text.now c.strip_suffix.result c.args.text refl (strip_suffix_char 10 c.args.text.now c.strip_suffix.result c.strip_suffix.ensures.cases (lit< tt))
