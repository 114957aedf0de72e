use Rattle.std.proofs.Common.{ℕ, ◌+◌, ◌<◌, arith}
use Rattle.oxc_sourcemap_join.proofs.Moving.{all-mapped-at}
use Rattle.oxc_sourcemap_join.proofs.shift.push_raised.Goals as goal

pub overflow_add-id : goal.overflow_add-id
overflow_add-id c =
    let f : ℕ → ℕ = λ id. id + c.args.number in
    let below = all-mapped-at (λ id. id < 4294967295) f c.args.added.now c.loop-id.id-index 0 c.loop-id-test.true c.requires.in_bounds in
    omega (arith, below)
