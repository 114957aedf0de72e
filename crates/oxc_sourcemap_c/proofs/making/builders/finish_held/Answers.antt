use Rattle.std.proofs.Common.{sym}
use Rattle.oxc_sourcemap_c.specs.declared.holding.held.Held.TheVariants.{Building}
use Rattle.oxc_sourcemap_c.proofs.Building.{unchanged}
use Rattle.oxc_sourcemap_c.proofs.making.builders.finish_held.Goals as goal

pub returns-in-Building-clause-unchanged : goal.returns-in-Building-clause-unchanged
returns-in-Building-clause-unchanged c = unchanged c.finish_builder.result Building c.in-Building.builder _ _ _ c.finish_builder.ensures.unchanged c.as_mut.ensures.value (sym c.in-Building.is)
