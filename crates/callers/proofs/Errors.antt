-- What holds of an error that a `?` returns, and of a result under two premises.
use Rattle.std.proofs.Common.{◌≡◌, ◌≢◌, ◌⊎◌, inl, inr, Result, Ok, Err, true, false, true≢false}
use Rattle.std.proofs.Common.{sym, subst, ap, ◌∙◌}
use Rattle.std.specs.Result.{IfOk, IfErr, IsErrAnd}
use Rattle.oxc_sourcemap.specs.Words.{MapRecord, FitsCompiled, are_tokens_sorted}
use Rattle.oxc_sourcemap.specs.Words.{OutOfMemory, TooLarge, Map, Unsorted}
use Rattle.oxc_sourcemap.specs.PlanError.{PlanError}

-- what holds of an error holds of the result that is this error
pub carried : {T E : Type 0} (result : Result T E) (e : E) (P : E → Type 0) → IsErrAnd result (λ x. x ≡ e) → P e → IfErr result P
carried (Ok x) e P same p = tt
carried (Err x) e P same p = subst P (sym same) p

-- what holds of a value follows from what holds of it under two premises
pub ok-given : {T E S U : Type 0} (P Q : T → Type 0) (r : Result T E) → (S → U → IfOk r P) → ((x : T) → S → U → P x → Q x) → IfOk r (λ x. S → U → Q x)
ok-given P Q (Ok x) f g = λ s u. g x s u (f s u)
ok-given P Q (Err e) f g = tt

pub err-given : {T E S U : Type 0} (P Q : E → Type 0) (r : Result T E) → (S → U → IfErr r P) → ((e : E) → S → U → P e → Q e) → IfErr r (λ e. S → U → Q e)
err-given P Q (Ok x) f g = tt
err-given P Q (Err e) f g = λ s u. g e s u (f s u)

-- what holds of want of memory, and of a map that is too large, holds of each error of compiling a sorted map
pub not-compiled : {A : Type 0} (m : MapRecord) (result : Result A PlanError) (P : PlanError → Type 0) → are_tokens_sorted m.tokens ≡ true
    → IfErr result (λ e. (e ≡ Unsorted) ⊎ (e ≡ Map TooLarge) ⊎ (e ≡ Map OutOfMemory)) → IfErr result (λ e. e ≡ Unsorted → are_tokens_sorted m.tokens ≡ false)
    → (FitsCompiled m → result ≢ Err (Map TooLarge)) → ((e : PlanError) → e ≡ Map OutOfMemory → P e) → ((e : PlanError) → e ≡ Map TooLarge → ¬ (FitsCompiled m) → P e)
    → IfErr result P
not-compiled m (Ok made) P sorted errors unsorted large memory too_large = tt
not-compiled m (Err e) P sorted errors unsorted large memory too_large =
    elim errors [
      | inl is ↦ absurd (true≢false (sym sorted ∙ unsorted is))
      | inr (inl is) ↦ too_large e is (λ fits. large fits (ap Err is))
      | inr (inr is) ↦ memory e is
    ]
