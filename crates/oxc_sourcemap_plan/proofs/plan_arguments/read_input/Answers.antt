use Rattle.std.proofs.Common.{ap, sym, ◌∙◌, Ok}
use Rattle.oxc_sourcemap_plan.specs.PlanArguments.{read_of_text}
use Rattle.oxc_sourcemap_plan.proofs.Plans.{outcome_read}
use Rattle.oxc_sourcemap_plan.proofs.plan_arguments.read_input.Goals as goal

pub returns-clause-part : goal.returns-clause-part
returns-clause-part c = ap read_of_text c.in_ok-input_text.ensures.0 ∙ ap Ok (sym (outcome_read c.in_ok-input_text.field-0))
