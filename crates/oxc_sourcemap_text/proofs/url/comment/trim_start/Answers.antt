use Rattle.std.proofs.Common.{sym}
use Rattle.std.specs.Str.{trim_start}
use Rattle.std.proofs.lemmas.Str.{chars_from_encodes}
use Rattle.oxc_sourcemap_text.proofs.url.comment.trim_start.Goals as goal

pub returns : goal.returns
unfolding trim_start
returns c = sym (chars_from_encodes _ c.trim_start.result.now c.trim_start.utf8 (sym c.trim_start.ensures.trim))
