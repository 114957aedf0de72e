use Rattle.std.proofs.Common.{◌∙◌}
use Rattle.std.proofs.lemmas.Slice.Eq.{slice_eq-Decides, bytes_eq-Decides}
use Rattle.oxc_sourcemap_tokens.specs.Results.{lent_items}
use Rattle.sourcemap_texts.proofs.LentTexts.{same_lent}
use Rattle.sourcemap_texts.proofs.paths.are_same.Goals as goal

pub returns : goal.returns
returns c =
    let same = slice_eq-Decides bytes_eq-Decides (lent_items c.args.a.now) (lent_items c.args.b.now) c.eq.result (c.eq.ensures ∙ same_lent c.args.a.now c.args.b.now) in
    record { yes = same.0; no = same.1 }
