use Rattle.sourcemap_run.proofs.Sums.{totals_add_up}
use Rattle.sourcemap_run.proofs.totals.totals_add_up.Goals as goal

pub returns : goal.returns
returns c = totals_add_up
