-- Calls that fail, by what was made for them.
use Rattle.std.proofs.Common.{◌≡◌, ℕ, Option, None, Result, Ok, Err, IfErr, MatchResult, refl}
use Rattle.oxc_sourcemap_tokens.specs.declared.errors.fault.FaultPlace.{FaultPlace}
use Rattle.oxc_sourcemap_c.specs.declared.numbers.call_error.CallError.{CallError}
use Rattle.oxc_sourcemap_c.specs.declared.making.failure.Failure.{Failure}
use Rattle.oxc_sourcemap_c.specs.declared.numbers.fault.Fault.{Fault}
use Rattle.oxc_sourcemap_c.specs.CallErrors.{out_of_memory}
use Rattle.oxc_sourcemap_c.specs.Codes.{fault_of, fault_at, code_of}
use Rattle.oxc_sourcemap_c.specs.Failures.{IsFailure, IsErrorAt}

-- the code and the fault of a call whose map was not made, or found no memory for its handle
pub told_at : {A : Type 0} (These : CallError → Option FaultPlace → Type 0) (made : Result A Failure) (fault : Fault) (code : ℕ) → IfErr made (IsFailure These)
    → MatchResult made (λ _. (fault ≡ fault_of out_of_memory) × (code ≡ code_of out_of_memory)) (λ f. (fault ≡ fault_at f.error f.place) × (code ≡ code_of f.error))
    → IsErrorAt code fault These
told_at These (Ok m) fault code fails told = (record { error = out_of_memory; place = None }, told.0, told.1, ((λ _. refl), (λ n. absurd (n refl))))
told_at These (Err f) fault code fails told = (f, told.0, told.1, fails)
