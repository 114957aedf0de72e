-- How many numbers searches compare: those of two halvings, one among blocks and one in a block, are few more than the binary digits
-- of the number of tokens.
use Rattle.std.proofs.Common.{◌≡◌, ℕ, ◌+◌, ◌*◌, ◌/◌, ◌^◌, ◌<◌, ◌≤◌, Bool, true, false, nat_lt, ap}
use Rattle.std.proofs.Common.{◌∙◌, arith, refl}
use Rattle.oxc_sourcemap_lookup.specs.Digits.{binary_digits}
use Rattle.oxc_sourcemap_lookup.proofs.Halving.{digits-half, digits-below, fewer-digits}

-- twice a number has one digit more
twice : (n m : ℕ) → 0 < n → m ≡ 2 * n → binary_digits m ≡ 1 + binary_digits n
twice n m some e =
    let half : m / 2 ≡ n = omega (arith, e) in
    digits-half m (omega (arith, e, some)) ∙ ap (λ k. 1 + binary_digits k) half

-- 64 blocks times as many tokens as blocks have six digits more
digits-of-blocks : (m : ℕ) → 0 < m → binary_digits (64 * m) ≡ 6 + binary_digits m
digits-of-blocks m some =
    let a = twice m (2 * m) some refl in
    let b = twice (2 * m) (4 * m) (omega (arith, some)) (omega arith) in
    let c = twice (4 * m) (8 * m) (omega (arith, some)) (omega arith) in
    let d = twice (8 * m) (16 * m) (omega (arith, some)) (omega arith) in
    let e = twice (16 * m) (32 * m) (omega (arith, some)) (omega arith) in
    let f = twice (32 * m) (64 * m) (omega (arith, some)) (omega arith) in
    omega (arith, a, b, c, d, e, f)

two-halvings-by : (b : Bool) (m c n : ℕ) → nat_lt 0 m ≡ b → c ≤ 64 → c ≤ n → 64 * m ≤ n → binary_digits m + binary_digits c ≤ binary_digits n + 1
two-halvings-by true m c n e few le many =
    let some : 0 < m = grind (arith, e) in
    let small : c < 2 ^ 7 = omega (arith, few) in
    omega (arith, digits-of-blocks m some, fewer-digits (64 * m) n many, digits-below 7 c small)
two-halvings-by false m c n e few le many =
    let none : m ≡ 0 = grind (arith, e) in
    omega (arith, ap binary_digits none, fewer-digits c n le)

-- so many blocks between two others, and so many tokens of one block, of all these tokens
pub two-halvings : (m c n : ℕ) → c ≤ 64 → c ≤ n → 64 * m ≤ n → binary_digits m + binary_digits c ≤ binary_digits n + 1
two-halvings m c n few le many = two-halvings-by (nat_lt 0 m) m c n refl few le many

-- numbers of 32 bits have 32 digits at most
pub digits-of-32 : (n : ℕ) → n ≤ 4294967295 → binary_digits n ≤ 32
digits-of-32 n h = digits-below 32 n (omega (arith, h))
