-- The builder that a handle holds, in its box.
use Rattle.std.proofs.Common.{◌≡◌, ◌∙◌, Result, Ok, Err, ap}
use Rattle.std.specs.Prelude.{Box}
use Rattle.std.specs.Box.{with_value}
use Rattle.std.specs.Result.{OnErr}

-- a box whose value is as it was is the same box, and so is what holds it
pub unchanged : {T E X Z H : Type 0} (made : Result T E) (hold : Box X Z → H) (box : Box X Z) (lent new : X) (held : H)
    → OnErr made (new ≡ lent) → lent ≡ box.value → hold box ≡ held → OnErr made (hold (with_value box new) ≡ held)
unchanged (Ok t) hold box lent new held same value is = same
unchanged (Err e) hold box lent new held same value is = ap (λ w. hold (with_value box w)) (same ∙ value) ∙ is
