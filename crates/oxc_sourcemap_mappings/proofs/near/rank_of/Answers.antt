use Rattle.std.proofs.Common.{arith}
use Rattle.oxc_sourcemap_mappings.proofs.Placing.{near-raw}
use Rattle.oxc_sourcemap_mappings.proofs.near.rank_of.Goals as goal

pub returns : goal.returns
returns c = record { near = λ l. near-raw c.args.to c.args.from _ (omega arith) (omega arith) (omega (arith, c.from.ensures, c.from-2.ensures)) l }
