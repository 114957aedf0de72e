use Rattle.std.proofs.Common.{None, arith}
use Rattle.std.proofs.lemmas.Str.Pattern.{strip_prefix_char}
use Rattle.sourcemap_run.proofs.Objects.{no_comma}
use Rattle.sourcemap_run.proofs.texts.without_comma.Goals as goal

pub returns-in-None : goal.returns-in-None
returns-in-None c = no_comma c.args.members.now (strip_prefix_char 44 c.args.members.now None c.in-None.ensures.cases (omega arith))
