use Rattle.sourcemap_run.proofs.CoveredApart.{lines_told_apart}
use Rattle.sourcemap_run.proofs.covered.covered_tells_apart.Goals as goal

pub returns : goal.returns
returns c = lines_told_apart
