use Rattle.oxc_sourcemap_plan.proofs.SimplifiedNeeded.{simplified_names_needed}
use Rattle.oxc_sourcemap_plan.proofs.SimplifiedNeeded.{simplified_sources_needed}
use Rattle.oxc_sourcemap_plan.proofs.SimplifiedNeeded.{simplification_needed}
use Rattle.oxc_sourcemap_plan.proofs.laws.simplifying.simplified_needed.Goals as goal

pub returns-clause-names : goal.returns-clause-names
returns-clause-names c = simplified_names_needed

pub returns-clause-sources : goal.returns-clause-sources
returns-clause-sources c = simplified_sources_needed

pub returns-clause-result : goal.returns-clause-result
returns-clause-result c = simplification_needed
