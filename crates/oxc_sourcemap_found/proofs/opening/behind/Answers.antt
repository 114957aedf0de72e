use Rattle.oxc_sourcemap_found.proofs.Prefixes.{stripped}
use Rattle.oxc_sourcemap_found.proofs.opening.behind.Goals as goal

pub returns : goal.returns
returns c = stripped c.args.prefix.now c.args.text.now c.strip_prefix.result c.strip_prefix.ensures.cases
