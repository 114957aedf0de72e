-- The answers and errors of a plan.
use Rattle.std.proofs.Common.{◌≡◌, ◌≢◌, ℕ, List, length, sym, ap, ◌∙◌, subst, arith, Result, Ok}
use Rattle.std.proofs.Common.{Err, inl, inr, ◌⊎◌, None, false}
use Rattle.std.specs.Result.{IsErrOf, OnErr}
use Rattle.std.proofs.lemmas.Bool.{cases_lt, false_from_ne_true}
use Rattle.oxc_sourcemap_tokens.specs.declared.errors.error.Error.{Error}
use Rattle.oxc_sourcemap_tokens.specs.declared.errors.error.Error.TheVariants.{TooLarge}
use Rattle.oxc_sourcemap_tokens.specs.declared.errors.error.Error.TheVariants.{OutOfMemory}
use Rattle.oxc_sourcemap_parts.specs.Record.{Text, MapRecord}
use Rattle.oxc_sourcemap_json.specs.Shape.{◌>>=◌}
use Rattle.oxc_sourcemap_json.specs.Encoded.{encoded, encoded_record}
use Rattle.oxc_sourcemap_json.specs.JsonText.{json_text, map_text}
use Rattle.oxc_sourcemap_plan.specs.MapLaws.{SoundIsTooLarge}
use Rattle.oxc_sourcemap_tokens.specs.declared.errors.plan_error.PlanError.{PlanError}
use Rattle.oxc_sourcemap_tokens.specs.declared.errors.plan_error.PlanError.TheVariants.{Map}
use Rattle.oxc_sourcemap_plan.specs.declared.run_error.RunError.{RunError}
use Rattle.oxc_sourcemap_plan.specs.declared.run_error.RunError.TheVariants.{Plan}
use Rattle.oxc_sourcemap_plan.specs.RunErrors.{out_of_memory}
use Rattle.oxc_sourcemap_plan.specs.Meaning.{Meaning}
use Rattle.oxc_sourcemap_plan.specs.Outcome.{Outcome}
use Rattle.oxc_sourcemap_plan.specs.Evaluated.{IsEvaluated, HasOutcome, IsErrorOf}
use Rattle.oxc_sourcemap_plan.specs.PlanPlaces.{IsOutcomePlace}
use Rattle.smap_run.specs.Answer.{IsPlanAnswer, IsPlanError}

pub words_error : (r : Result Outcome RunError) (f e : RunError) → r ≡ Err f → e ≡ f → IsPlanError r e
words_error r f e p q = subst (λ r. IsPlanError r e) (sym p) q

pub plan_error_of : (r : Result Outcome RunError) (o : Outcome) (p : PlanError) (e : RunError) → r ≡ Ok o → e ≡ Plan p → e ≢ out_of_memory → (p ≢ Map OutOfMemory → IsErrorOf o.meaning o.is_within_limits p) → IsPlanError r e
plan_error_of r o p e k h n f = subst (λ r. IsPlanError r e) (sym k) (p, h, f (λ m. n (h ∙ ap (λ x. Plan x) m)))

-- the error of a plan, by its outcome
pub by_outcome : (o : Outcome) (w : Meaning) (p : PlanError) → o.meaning ≡ w → (p ≡ Map OutOfMemory) ⊎ IsErrorOf w o.is_within_limits p → p ≢ Map OutOfMemory → IsErrorOf o.meaning o.is_within_limits p
by_outcome o w p is told n = elim told [ inl memory ↦ absurd (n memory) | inr error ↦ subst (λ w. IsErrorOf w o.is_within_limits p) (sym is) error ]

text-of : (m : MapRecord) → encoded m ≡ Ok (encoded_record m) → map_text m ≡ Ok (json_text (encoded_record m))
unfolding map_text
text-of m e = ap (λ r. r >>= (λ j. Ok (json_text j))) e

fault-of : (m : MapRecord) (e : Error) → encoded m ≡ Err e → map_text m ≡ Err e
unfolding map_text
fault-of m e k = ap (λ r. r >>= (λ j. Ok (json_text j))) k

same-error : {A : Type 0} (x y : Error) → ◌≡◌ {A = Result A Error} (Err x) (Err y) → x ≡ y
same-error x y e = cc (e)

-- a map that is not written has too many tokens, so a part passes a limit
pub writing_large : SoundIsTooLarge → (o : Outcome) (m : MapRecord) (f : Error) → IsEvaluated m o.meaning → HasOutcome m o → (f ≢ OutOfMemory → map_text m ≡ Err f) → f ≢ OutOfMemory
    → (f ≡ TooLarge) × (o.is_within_limits ≡ false)
writing_large law o m f is has error n =
    let told = error n in
    elim (cases_lt 4294967295 (length m.tokens)) [
      | inl l ↦ (
        same-error f TooLarge (sym told ∙ fault-of m TooLarge (law m is.sound l)),
        false_from_ne_true o.is_within_limits (λ t. (let most = has.within_limits t in omega arith)),
      )
      | inr l ↦ absurd (cc (sym told ∙ text-of m (is.written (omega arith))))
    ]

pub writing_fails : SoundIsTooLarge → (o : Outcome) (m : MapRecord) (f : Error) → IsEvaluated m o.meaning → HasOutcome m o → (f ≢ OutOfMemory → map_text m ≡ Err f) → f ≢ OutOfMemory
    → IsErrorOf o.meaning o.is_within_limits (Map f)
writing_fails law o m f is has error n = let large = writing_large law o m f is has error n in inr (ap (λ x. Map x) large.0, large.1)

same-map : (e f : Error) → Map e ≡ Map f → e ≡ f
same-map e f h = cc

-- that error has no place
pub writing_place : SoundIsTooLarge → (inputs : List Text) (o : Outcome) (m : MapRecord) (f : Error) → IsEvaluated m o.meaning → HasOutcome m o → (f ≢ OutOfMemory → map_text m ≡ Err f) → f ≢ OutOfMemory
    → IsOutcomePlace inputs o (Map f) None
writing_place law inputs o m f is has error n = λ e same reads. let large = writing_large law o m f is has error n in (sym (same-map f e same) ∙ large.0, large.1)

pub plan_answers : (r : Result Outcome RunError) (o : Outcome) (out : List ℕ) → r ≡ Ok o → IsPlanAnswer (Ok o) out → IsPlanAnswer r out
plan_answers r o out k is = subst (λ r. IsPlanAnswer r out) (sym k) is

-- ---- running
pub of_err : {A E : Type 0} (r : Result A E) (e : E) (P : Type 0) → IsErrOf r e → OnErr r P → P
of_err (Ok x) e P h p = absurd (cc (h))
of_err (Err f) e P h p = p
