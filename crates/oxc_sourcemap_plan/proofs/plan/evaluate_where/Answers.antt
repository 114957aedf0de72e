use Rattle.std.proofs.Common.{refl}
use Rattle.std.proofs.lemmas.Result.{IfOk-weaker, IfErr-weaker}
use Rattle.oxc_sourcemap_parts.specs.Views.{record_of_parts}
use Rattle.oxc_sourcemap_plan.proofs.Answering.{evaluated, with_outcome, failed, told}
use Rattle.oxc_sourcemap_plan.proofs.Meanings.{same_meaning}
use Rattle.oxc_sourcemap_plan.proofs.SameTexts.{same_texts}
use Rattle.oxc_sourcemap_plan.proofs.plan.evaluate_where.Goals as goal

pub returns-clause-map : goal.returns-clause-map
returns-clause-map c =
    let law = c.canonical_unique.ensures in
    IfOk-weaker c.evaluate_part.result _ _ (λ m g. evaluated c.dropping_harmless.ensures.traces_agree law.sound_is_written law.sound_reads_back c.args.plan.now (record_of_parts m) (record_of_parts m)
    (c.is_within_depth.ensures.0 c.if-not-is_within_depth.false) refl g) c.evaluate_part.ensures.map

pub returns-clause-outcome : goal.returns-clause-outcome
returns-clause-outcome c =
    let law = c.canonical_unique.ensures in
    IfOk-weaker c.evaluate_part.result _ _ (λ m g. with_outcome c.dropping_harmless.ensures.traces_agree law.sound_is_written law.sound_reads_back c.args.plan.now (record_of_parts m) (record_of_parts m)
    (c.is_within_depth.ensures.0 c.if-not-is_within_depth.false) refl g) c.evaluate_part.ensures.map

pub returns-clause-error : goal.returns-clause-error
returns-clause-error c =
    IfErr-weaker c.evaluate_part.result _ _ (λ f h. failed c.args.plan.now f.error (c.is_within_depth.ensures.0 c.if-not-is_within_depth.false) h) c.evaluate_part.ensures.error

pub returns-clause-same_meaning : goal.returns-clause-same_meaning
returns-clause-same_meaning c = same_meaning c.args.plan.now

pub returns-clause-told : goal.returns-clause-told
returns-clause-told c =
    IfErr-weaker c.evaluate_part.result _ _ (λ f h. told c.args.plan.now f (c.is_within_depth.ensures.0 c.if-not-is_within_depth.false) h) c.evaluate_part.ensures.told

pub returns-clause-same_texts : goal.returns-clause-same_texts
returns-clause-same_texts c = same_texts c.args.plan.now

pub returns-then-not-is_within_depth-clause-same_texts : goal.returns-then-not-is_within_depth-clause-same_texts
returns-then-not-is_within_depth-clause-same_texts c = same_texts c.args.plan.now
