use Rattle.std.proofs.Common.{◌≡◌, lit<, ◌∙◌, sym}
use Rattle.std.specs.List.{slice_split}
use Rattle.std.proofs.lemmas.Iterator.Consumers.{map_from_collect}
use Rattle.std.proofs.lemmas.Iterator.Splits.{YieldsList-from_str_split}
use Rattle.oxc_sourcemap_scopes.specs.Reading.{items_of, is_comma}
use Rattle.oxc_sourcemap_scopes.proofs.Pieces.{items-filled}
use Rattle.oxc_sourcemap_scopes.proofs.decoding.items_of.Goals as goal

pub returns : goal.returns
returns c =
    let e : items_of c.args.text.now ≡ slice_split is_comma c.args.text.now = items-filled c.args.text.now (sym c.is_empty.ensures ∙ c.if-is_empty.false) in
    rw e (map_from_collect _ c.collect.ensures.ran (YieldsList-from_str_split 44 c.args.text.now (lit< tt) c.split.ensures.text c.split.ensures.has_more c.split.ensures.pattern))
