-- How many binary digits a number has.
use Rattle.std.specs.Prelude.{ℕ, zero, suc, ◌+◌, ◌/◌}

-- how many binary digits a number has, counted up to this many
abbrev pub digits_up_to : ℕ → ℕ → ℕ
digits_up_to zero n = 0
digits_up_to (suc most) zero = 0
digits_up_to (suc most) (suc n) = 1 + digits_up_to most (suc n / 2)

-- How many binary digits a number has: zero has none, and any other number has one more than its half.
abbrev pub binary_digits : ℕ → ℕ
binary_digits n = digits_up_to n n
