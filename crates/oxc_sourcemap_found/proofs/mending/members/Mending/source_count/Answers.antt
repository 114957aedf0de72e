use Rattle.std.proofs.Common.{arith}
use Rattle.std.proofs.lemmas.Grind.{common_steps}
use Rattle.oxc_sourcemap_found.proofs.Entries.{count-entries}
use Rattle.oxc_sourcemap_found.proofs.mending.members.Mending.source_count.Goals as goal

pub returns-in-Some : goal.returns-in-Some
returns-in-Some c = grind (arith, common_steps, count-entries c.in-Some.items.now)
