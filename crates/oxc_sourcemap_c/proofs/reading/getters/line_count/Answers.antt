use Rattle.std.proofs.Common.{arith}
use Rattle.std.proofs.lemmas.Grind.{common_steps}
use Rattle.oxc_sourcemap_lookup.proofs.Tables.{last_at}
use Rattle.oxc_sourcemap_c.proofs.reading.getters.line_count.Goals as goal

pub returns-in-Some : goal.returns-in-Some
returns-in-Some c = grind (arith, common_steps, last_at c.args.tokens.now)
