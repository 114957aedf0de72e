use Rattle.std.proofs.Common.{arith}
use Rattle.std.proofs.lemmas.Grind.{common_steps}
use Rattle.oxc_sourcemap_lookup.proofs.Tables.{last_at}
use Rattle.oxc_sourcemap_compiled.proofs.writing.lines.line_count.Goals as goal

pub returns-in-Some-clause-value : goal.returns-in-Some-clause-value
returns-in-Some-clause-value c = grind (arith, common_steps, last_at c.args.tokens.now)
