use Rattle.std.proofs.Common.{rules, ◌≢◌, ap}
use Rattle.oxc_sourcemap_tokens.specs.Results.{lent_items}
use Rattle.oxc_sourcemap_plan.specs.Meaning.{meaning}
use Rattle.oxc_sourcemap_plan.specs.Outcome.{outcome}
use Rattle.oxc_sourcemap_c.specs.CallErrors.{out_of_memory}
use Rattle.oxc_sourcemap_c.specs.Plans.{of_plan}
use Rattle.oxc_sourcemap_c.proofs.Located.{plan_failed}
use Rattle.oxc_sourcemap_c.proofs.making.plans.evaluate_plan.Goals as goal

pub returns-in-Err-2-clause-error : goal.returns-in-Err-2-clause-error
returns-in-Err-2-clause-error c =
    let other : of_plan c.in-Err.fault.error ≢ out_of_memory = search rules in
    plan_failed (outcome c.args.plan.now) (meaning c.args.plan.now) c.in-Err.fault (lent_items c.args.inputs.now) c.plan_failure.result (λ memory. other (ap of_plan memory))
    c.in-Err.ensures.same_meaning c.in-Err.ensures.error c.in-Err.ensures.told c.requires.texts c.plan_failure.ensures.error c.plan_failure.ensures.place
