use Rattle.oxc_sourcemap_plan.proofs.SimplifiedWhole.{simplifying_again, simplification_again}
use Rattle.oxc_sourcemap_plan.proofs.laws.simplifying.simplifying_idempotent.Goals as goal

pub returns-clause-again : goal.returns-clause-again
returns-clause-again c = simplifying_again

pub returns-clause-result : goal.returns-clause-result
returns-clause-result c = simplification_again
