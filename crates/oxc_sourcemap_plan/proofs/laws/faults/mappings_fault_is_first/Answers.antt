use Rattle.oxc_sourcemap_plan.proofs.FaultSegments.{fault_is_there}
use Rattle.oxc_sourcemap_plan.proofs.laws.faults.mappings_fault_is_first.Goals as goal

pub returns : goal.returns
returns c = fault_is_there
