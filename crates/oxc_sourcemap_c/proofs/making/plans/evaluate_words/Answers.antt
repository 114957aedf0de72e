use Rattle.std.proofs.Common.{◌∙◌, IfErr, ap, subst, sym, map, string_bytes}
use Rattle.oxc_sourcemap_tokens.specs.Results.{lent_items}
use Rattle.oxc_sourcemap_plan.specs.PlanArguments.{parsed_plan}
use Rattle.oxc_sourcemap_c.specs.Failures.{IsFailure}
use Rattle.oxc_sourcemap_c.specs.Plans.{IsOutcomeErrorAt}
use Rattle.oxc_sourcemap_c.proofs.making.plans.evaluate_words.Goals as goal

pub returns-in-Ok-read_plan-clause-error : goal.returns-in-Ok-read_plan-clause-error
returns-in-Ok-read_plan-clause-error c =
    let texts = lent_items c.args.texts.now in
    let words = ap (map string_bytes) c.as_slice.ensures.value ∙ c.in-Ok.ensures in
    let parsed = ap (parsed_plan texts) (sym words) ∙ c.in-Ok-read_plan.ensures.plan in
    subst (λ plan. IfErr c.evaluate_plan.result (IsFailure (IsOutcomeErrorAt texts plan))) (sym parsed) c.evaluate_plan.ensures.error
