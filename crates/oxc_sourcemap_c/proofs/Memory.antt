-- Calls that fail only for want of memory.
use Rattle.std.proofs.Common.{◌≡◌, ℕ, Result, Ok, Err, IfErr, MatchResult}
use Rattle.oxc_sourcemap_c.specs.declared.numbers.call_error.CallError.{CallError}
use Rattle.oxc_sourcemap_c.specs.declared.numbers.fault.Fault.{Fault}
use Rattle.oxc_sourcemap_c.specs.CallErrors.{out_of_memory}
use Rattle.oxc_sourcemap_c.specs.Codes.{fault_of, code_of, IsErrorAs}

pub memory_alone : {A : Type 0} (made : Result A CallError) (fault : Fault) (code : ℕ) → IfErr made (λ r. r ≡ out_of_memory)
    → MatchResult made (λ _. ⊥) (λ r. (fault ≡ fault_of r) × (code ≡ code_of r)) → IsErrorAs code fault (λ r. ⊥)
memory_alone (Ok a) fault code only is = absurd is
memory_alone (Err r) fault code only is = (r, is.0, is.1, λ n. n only)
