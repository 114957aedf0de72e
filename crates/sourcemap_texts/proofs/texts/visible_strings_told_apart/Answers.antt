use Rattle.sourcemap_texts.proofs.ToldApart.{told_apart}
use Rattle.sourcemap_texts.proofs.texts.visible_strings_told_apart.Goals as goal

pub returns : goal.returns
returns c = told_apart
