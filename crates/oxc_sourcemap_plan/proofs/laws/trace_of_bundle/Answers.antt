use Rattle.oxc_sourcemap_plan.proofs.Bundles.{traces_of_bundle}
use Rattle.oxc_sourcemap_plan.proofs.laws.trace_of_bundle.Goals as goal

pub returns : goal.returns
returns c = traces_of_bundle
