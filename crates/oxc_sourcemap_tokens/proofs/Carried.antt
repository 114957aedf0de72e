-- Errors that are returned as they are.
use Rattle.std.proofs.Common.{◌≡◌, Result, Ok, Err, sym, subst}
use Rattle.std.specs.Result.{IfOk, IfErr, IsErrAnd}

-- what holds of a fault holds of an error that is this fault
pub carried_error : {T E : Type 0} (result : Result T E) (fault : E) (P : E → Type 0) → IsErrAnd result (λ e. e ≡ fault) → P fault → IfErr result P
carried_error (Ok x) fault P same p = tt
carried_error (Err e) fault P same p = subst P (sym same) p

-- the clauses of a result that is an error: the one about values holds of no value
pub failed-answer : {T E : Type 0} (result : Result T E) (fault : E) (Q : T → Type 0) (P : E → Type 0) → IsErrAnd result (λ e. e ≡ fault) → P fault → IfOk result Q × IfErr result P
failed-answer (Ok x) fault Q P same p = absurd same
failed-answer (Err e) fault Q P same p = (tt, subst P (sym same) p)
