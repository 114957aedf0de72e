-- The maps of plans over texts that were read from bytes, and their failures.
use Rattle.std.proofs.Common.{◌≡◌, inr, Result, Ok, Err, IfOk, IfErr, subst, List}
use Rattle.oxc_sourcemap_parts.specs.Record.{Text, MapRecord}
use Rattle.oxc_sourcemap_plan.specs.PlanArguments.{parsed_plan}
use Rattle.oxc_sourcemap_c.specs.declared.making.failure.Failure.{Failure}
use Rattle.oxc_sourcemap_c.specs.Failures.{IsFailure}
use Rattle.oxc_sourcemap_c.specs.Lists.{AreTexts}
use Rattle.oxc_sourcemap_c.specs.Plans.{IsPlanMap, IsEvaluationErrorAt, IsPlanErrorAt}

pub map_of_bytes : (words texts w t : List Text) (result : Result MapRecord Failure) → w ≡ words → t ≡ texts → IfOk result (IsPlanMap (parsed_plan t w)) → IfOk result (IsPlanMap (parsed_plan texts words))
map_of_bytes words texts w t result e f is = subst (λ x. IfOk result (IsPlanMap (parsed_plan texts x))) e (subst (λ y. IfOk result (IsPlanMap (parsed_plan y w))) f is)

pub failure_of_bytes : (words texts w t : List Text) (result : Result MapRecord Failure) → w ≡ words → t ≡ texts → AreTexts words → AreTexts texts → IfErr result (IsFailure (IsEvaluationErrorAt w t))
    → IfErr result (IsFailure (IsPlanErrorAt words texts))
failure_of_bytes words texts w t (Ok m) e f u v is = tt
failure_of_bytes words texts w t (Err r) e f u v is =
    let same = subst (λ x. IsFailure (IsEvaluationErrorAt x texts) r) e (subst (λ y. IsFailure (IsEvaluationErrorAt w y) r) f is) in
    (same.0, λ n. inr (inr (u, v, same.1 n)))
