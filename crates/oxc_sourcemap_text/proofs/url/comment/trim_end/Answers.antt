use Rattle.std.proofs.Common.{sym}
use Rattle.std.specs.Str.{trim_end}
use Rattle.std.proofs.lemmas.Str.{chars_from_encodes}
use Rattle.oxc_sourcemap_text.proofs.url.comment.trim_end.Goals as goal

pub returns : goal.returns
unfolding trim_end
returns c = sym (chars_from_encodes _ c.trim_end.result.now c.trim_end.utf8 (sym c.trim_end.ensures.trim))
