use Rattle.oxc_sourcemap_plan.proofs.TracesRemapped.{traces_remapped, traces_of_remapped_maps}
use Rattle.oxc_sourcemap_plan.proofs.laws.trace_of_remap.Goals as goal

pub returns-clause-decoded_maps : goal.returns-clause-decoded_maps
returns-clause-decoded_maps c = traces_remapped

pub returns-clause-maps : goal.returns-clause-maps
returns-clause-maps c = traces_of_remapped_maps
