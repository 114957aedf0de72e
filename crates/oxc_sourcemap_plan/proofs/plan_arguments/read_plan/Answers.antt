use Rattle.std.proofs.Common.{ap, ◌∙◌, arith, map, string_bytes}
use Rattle.oxc_sourcemap_tokens.specs.Results.{lent_items}
use Rattle.oxc_sourcemap_plan.specs.Outcome.{outcome_of}
use Rattle.oxc_sourcemap_plan.specs.PlanArguments.{whole}
use Rattle.oxc_sourcemap_plan.proofs.PlanArguments.{whole-left}
use Rattle.oxc_sourcemap_plan.proofs.InputTexts.{plan_over}
use Rattle.oxc_sourcemap_plan.proofs.plan_arguments.read_plan.Goals as goal

pub returns-clause-error : goal.returns-clause-error
returns-clause-error c = λ n. ap whole c.in_ok-plan.ensures.part ∙ whole-left (outcome_of c.in_ok-plan.plan) c.in_ok-plan.rest.now (λ e. let l = c.in_default.len_at_least in omega (arith, e, l))

pub returns-in-empty-clause-texts : goal.returns-in-empty-clause-texts
returns-in-empty-clause-texts c =
    plan_over (lent_items c.args.inputs.now) (map string_bytes c.args.arguments.now) (map string_bytes c.in_ok-plan.rest.now) c.in_ok-plan.plan c.in_ok-plan.ensures.part
