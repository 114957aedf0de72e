use Rattle.oxc_sourcemap_plan.proofs.TracesSimplified.{simplified-composed, simplified-remapped}
use Rattle.oxc_sourcemap_plan.proofs.TracesSimplified.{simplified-joined}
use Rattle.oxc_sourcemap_plan.proofs.laws.steps_over_simplified.Goals as goal

pub returns-clause-composed : goal.returns-clause-composed
returns-clause-composed c = simplified-composed

pub returns-clause-remapped : goal.returns-clause-remapped
returns-clause-remapped c = simplified-remapped

pub returns-clause-joined : goal.returns-clause-joined
returns-clause-joined c = simplified-joined
