use Rattle.oxc_sourcemap_plan.proofs.TracesComposed.{traces_composed, traces_of_composed_maps}
use Rattle.oxc_sourcemap_plan.proofs.laws.trace_of_composition.Goals as goal

pub returns-clause-decoded_maps : goal.returns-clause-decoded_maps
returns-clause-decoded_maps c = traces_composed

pub returns-clause-maps : goal.returns-clause-maps
returns-clause-maps c = traces_of_composed_maps
