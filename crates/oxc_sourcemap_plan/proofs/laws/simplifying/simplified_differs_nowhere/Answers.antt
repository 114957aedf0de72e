use Rattle.oxc_sourcemap_plan.proofs.Differences.{simplified_traces_same, simplified_is_least}
use Rattle.oxc_sourcemap_plan.proofs.Differences.{simplification_traces_same}
use Rattle.oxc_sourcemap_plan.proofs.laws.simplifying.simplified_differs_nowhere.Goals as goal

pub returns-clause-traces : goal.returns-clause-traces
returns-clause-traces c = simplified_traces_same

pub returns-clause-result : goal.returns-clause-result
returns-clause-result c = simplification_traces_same

pub returns-clause-least : goal.returns-clause-least
returns-clause-least c = simplified_is_least
