use Rattle.sourcemap_run.proofs.Lcov.{tells_apart}
use Rattle.sourcemap_run.proofs.covered.lcov_tells_apart.Goals as goal

pub returns : goal.returns
returns c = tells_apart
