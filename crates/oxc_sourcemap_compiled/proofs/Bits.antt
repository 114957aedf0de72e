-- Values side by side in the bits of a number: as bytes, step by step, and each read back through a window of eight bytes.
use Rattle.std.proofs.Common.{◌≡◌, ℕ, zero, suc, ◌+◌, ◌-◌, ◌*◌, ◌/◌, ◌%◌, ◌^◌, ◌<◌, ◌≤◌, List, ◌∷◌}
use Rattle.std.proofs.Common.{append_assoc, append-nil, ◌++◌, refl, sym, ap, ◌∙◌, arith, subst}
use Rattle.std.proofs.Common.{Bool, true, false, nat_le, get_or}
use Rattle.std.proofs.Math.Nat.{add-mul-mod_self_left, add-mul-div_left, div-one, pow-suc}
use Rattle.std.proofs.Math.Nat.{div-eq_of_lt}
use Rattle.std.proofs.Math.Pow.{pow_mono}
use Rattle.std.proofs.lemmas.Nat.{pow-add, shr-shr, pow_pos, div_below, mul-add-lt}
use Rattle.oxc_sourcemap_compiled.specs.Numbers.{number_at}
use Rattle.oxc_sourcemap_compiled.specs.Compiled.{bytes_of, IsWritten}
use Rattle.oxc_sourcemap_compiled.specs.declared.writing.blocks.Rest.{Rest}
use Rattle.oxc_sourcemap_compiled.proofs.Bytes.{bytes-length}
use Rattle.oxc_sourcemap_compiled.proofs.Parts.{LiesAt, lies-next}
use Rattle.oxc_sourcemap_compiled.proofs.ReadNumbers.{bytes-bits, number-split, number-read}

-- what lies above a bit changes none of those below it
above-left : (x y k w s : ℕ) → w + s ≡ k → (x + 2 ^ k * y) % 2 ^ w ≡ x % 2 ^ w
above-left x y k w s e =
    let parts : 2 ^ k ≡ 2 ^ w * 2 ^ s = sym (ap (λ n. 2 ^ n) e) ∙ pow-add 2 w s in
    let moved : x + 2 ^ k * y ≡ x + 2 ^ w * (2 ^ s * y) = ap (λ p. x + p * y) parts ∙ omega arith in
    ap (λ n. n % 2 ^ w) moved ∙ add-mul-mod_self_left x (2 ^ w) (2 ^ s * y)

-- a number shifted, and what was above
shifted : (x y k r s : ℕ) → r + s ≡ k → (x + 2 ^ k * y) / 2 ^ r ≡ x / 2 ^ r + 2 ^ s * y
shifted x y k r s e =
    let parts : 2 ^ k ≡ 2 ^ r * 2 ^ s = sym (ap (λ n. 2 ^ n) e) ∙ pow-add 2 r s in
    let moved : x + 2 ^ k * y ≡ x + 2 ^ r * (2 ^ s * y) = ap (λ p. x + p * y) parts ∙ omega arith in
    ap (λ n. n / 2 ^ r) moved ∙ add-mul-div_left x (2 ^ s * y) (pow_pos r)

-- so a value of w bits from a bit on is the same of fewer bytes, if it lies in these
pub low-value : (x y k r w s : ℕ) → r + w + s ≡ k → (x + 2 ^ k * y) / 2 ^ r % 2 ^ w ≡ x / 2 ^ r % 2 ^ w
low-value x y k r w s e =
    let whole : r + (w + s) ≡ k = omega (arith, e) in
    ap (λ n. n % 2 ^ w) (shifted x y k r (w + s) whole) ∙ above-left (x / 2 ^ r) y (w + s) w s refl

-- ---- bytes of a number
-- low bytes and high ones
pub bytes-append : (a c n : ℕ) → bytes_of (a + c) n ≡ bytes_of a n ++ bytes_of c (n / 256 ^ a)
unfolding bytes_of
bytes-append zero c n =
    let none : 0 + c ≡ c = omega arith in
    let whole : n ≡ n / 256 ^ 0 = sym (div-one n) in
    ap (λ k. bytes_of k n) none ∙ ap (bytes_of c) whole
bytes-append (suc a) c n =
    let next : suc a + c ≡ suc (a + c) = omega arith in
    let more : n / 256 / 256 ^ a ≡ n / 256 ^ suc a =
    ap (λ p. n / 256 / p) (bytes-bits a) ∙ shr-shr n 8 (8 * a) ∙ ap (λ k. n / 2 ^ k) (omega arith) ∙ ap (λ p. n / p) (sym (bytes-bits (suc a))) in
    ap (λ k. bytes_of k n) next ∙ ap (λ xs. n % 256 ∷ xs) (bytes-append a c (n / 256) ∙ ap (λ m. bytes_of a (n / 256) ++ bytes_of c m) more)

-- what is above them changes none of them
pub bytes-low : (a n m : ℕ) → bytes_of a (n + 256 ^ a * m) ≡ bytes_of a n
unfolding bytes_of
bytes-low zero n m = refl
bytes-low (suc a) n m =
    let factor : 256 ^ suc a ≡ 256 * 256 ^ a = pow-suc 256 a ∙ omega arith in
    let moved : n + 256 ^ suc a * m ≡ n + 256 * (256 ^ a * m) = ap (λ p. n + p * m) factor ∙ omega arith in
    let low : (n + 256 ^ suc a * m) % 256 ≡ n % 256 = ap (λ x. x % 256) moved ∙ add-mul-mod_self_left n 256 (256 ^ a * m) in
    let high : (n + 256 ^ suc a * m) / 256 ≡ n / 256 + 256 ^ a * m = ap (λ x. x / 256) moved ∙ add-mul-div_left n (256 ^ a * m) (omega arith) in
    ap (λ b. b ∷ bytes_of a ((n + 256 ^ suc a * m) / 256)) low ∙ ap (λ x. n % 256 ∷ bytes_of a x) high ∙ ap (λ xs. n % 256 ∷ xs) (bytes-low a (n / 256) m)

-- a number of w bits, and one of s bits above it
pub one-more : (w s v rest : ℕ) → v < 2 ^ w → rest < 2 ^ s → v + 2 ^ w * rest < 2 ^ (w + s)
one-more w s v rest hv hr = omega (arith, mul-add-lt rest (2 ^ w) v (2 ^ s) hr hv, pow-add 2 w s)

-- ---- read through a window
window-by : (b : Bool) (m r w at : ℕ) (all : List ℕ) → nat_le 8 m ≡ b → r + w ≤ 64 → r + w ≤ 8 * m → number_at 8 all at / 2 ^ r % 2 ^ w ≡ number_at m all at / 2 ^ r % 2 ^ w
window-by true m r w at all e few there =
    let le : 8 ≤ m = grind (arith, e) in
    let rest = number_at (m - 8) all (at + 8) in
    let low = number_at 8 all at in
    let split : number_at m all at ≡ low + 2 ^ 64 * rest = number-split 8 (m - 8) m at all (omega (arith, le)) ∙ ap (λ p. low + p * rest) (bytes-bits 8) in
    sym (ap (λ n. n / 2 ^ r % 2 ^ w) split ∙ low-value low rest 64 r w (64 - (r + w)) (omega (arith, few)))
window-by false m r w at all e few there =
    let less : m < 8 = grind (arith, e) in
    let rest = number_at (8 - m) all (at + m) in
    let low = number_at m all at in
    let split : number_at 8 all at ≡ low + 2 ^ (8 * m) * rest = number-split m (8 - m) 8 at all (omega (arith, less)) ∙ ap (λ p. low + p * rest) (bytes-bits m) in
    ap (λ n. n / 2 ^ r % 2 ^ w) split ∙ low-value low rest (8 * m) r w (8 * m - (r + w)) (omega (arith, there))

-- Of a number that lies in a list as n bytes the value at a bit is had of the eight bytes from its byte on.
pub window : (number n q r w at : ℕ) (all : List ℕ) → number < 256 ^ n → LiesAt at (bytes_of n number) all → q ≤ n → r + w ≤ 64 → r + w ≤ 8 * (n - q)
    → number_at 8 all (at + q) / 2 ^ r % 2 ^ w ≡ number / 2 ^ (8 * q + r) % 2 ^ w
window number n q r w at all small lies within few there =
    let m = n - q in
    let whole : q + m ≡ n = omega (arith, within) in
    let high = number / 256 ^ q in
    let parts : bytes_of n number ≡ bytes_of q number ++ bytes_of m high = ap (λ k. bytes_of k number) (sym whole) ∙ bytes-append q m number in
    let next = lies-next at q (bytes_of q number) (bytes_of m high) all (subst (λ part. LiesAt at part all) parts lies) (bytes-length q number) in
    let fill : 256 ^ n ≡ 256 ^ q * 256 ^ m = ap (λ k. 256 ^ k) (sym whole) ∙ pow-add 256 q m in
    let below : high < 256 ^ m = div_below number (256 ^ q) (256 ^ m) (pow-positive q) (omega (arith, small, fill)) in
    let read = number-read m high (at + q) all next below in
    let down : high / 2 ^ r ≡ number / 2 ^ (8 * q + r) = ap (λ p. number / p / 2 ^ r) (bytes-bits q) ∙ shr-shr number (8 * q) r in
    window-by (nat_le 8 m) m r w (at + q) all refl few there ∙ ap (λ n. n / 2 ^ r % 2 ^ w) read ∙ ap (λ n. n % 2 ^ w) down where
      pow-positive : (q : ℕ) → 0 < 256 ^ q
      pow-positive q = subst (λ p. 0 < p) (sym (bytes-bits q)) (pow_pos (8 * q))

-- ---- read in a word
-- bytes have at most 255
number-small : (w at : ℕ) (all : List ℕ) → ((k : ℕ) → get_or all k 0 < 256) → number_at w all at < 256 ^ w
unfolding number_at
number-small zero at all each = omega arith
number-small (suc w) at all each = omega (arith, each at, number-small w (at + 1) all each, pow-suc 256 w)

-- Of a token of at most 56 bits the value of a field is had of the eight bytes from the token's first bit on, too.
pub in-word : (at bit f w : ℕ) (all : List ℕ) → ((k : ℕ) → get_or all k 0 < 256) → f + w ≤ 56
    → number_at 8 all (at + (f + bit) / 8) / 2 ^ ((f + bit) % 8) % 2 ^ w ≡ number_at 8 all (at + bit / 8) / 2 ^ (bit % 8) / 2 ^ f % 2 ^ w
in-word at bit f w all each few =
    let r = bit % 8 in
    let base = at + bit / 8 in
    let q = (r + f) / 8 in
    let s = (r + f) % 8 in
    let m = 8 - q in
    let x = number_at 8 all base in
    let low = number_at q all base in
    let high = number_at m all (base + q) in
    let place : at + (f + bit) / 8 ≡ base + q = omega arith in
    let turn : (f + bit) % 8 ≡ s = omega arith in
    let far : r + f ≡ 8 * q + s = omega arith in
    let split : x ≡ low + 2 ^ (8 * q) * high = number-split q m 8 base all (omega (arith, few)) ∙ ap (λ p. low + p * high) (bytes-bits q) in
    let small : low < 2 ^ (8 * q) = subst (λ p. low < p) (bytes-bits q) (number-small q base all each) in
    let none : 0 + high ≡ high = omega arith in
    let above : x / 2 ^ (8 * q) ≡ high = ap (λ n. n / 2 ^ (8 * q)) split ∙ add-mul-div_left low high (pow_pos (8 * q)) ∙ ap (λ n. n + high) (div-eq_of_lt small) ∙ none in
    let word : x / 2 ^ r / 2 ^ f ≡ high / 2 ^ s = shr-shr x r f ∙ ap (λ e. x / 2 ^ e) far ∙ sym (shr-shr x (8 * q) s) ∙ ap (λ n. n / 2 ^ s) above in
    ap (λ a. number_at 8 all a / 2 ^ ((f + bit) % 8) % 2 ^ w) place ∙ ap (λ e. number_at 8 all (base + q) / 2 ^ e % 2 ^ w) turn
    ∙ window-by (nat_le 8 m) m s w (base + q) all refl (omega (arith, few)) (omega (arith, few)) ∙ sym (ap (λ n. n % 2 ^ w) word)

-- ---- written step by step
-- Bytes of what was written so far, and of what is left with a value put above it, are those of all.
pub step : (number value bits w : ℕ) → number < 2 ^ bits
    → bytes_of (bits / 8) number ++ bytes_of ((bits % 8 + w) / 8) (number / 256 ^ (bits / 8) + 2 ^ (bits % 8) * value) ≡ bytes_of ((bits + w) / 8) (number + 2 ^ bits * value)
step number value bits w small =
    let a = bits / 8 in
    let r = bits % 8 in
    let split : bits ≡ 8 * a + r = omega arith in
    let count : (bits + w) / 8 ≡ a + (r + w) / 8 = omega arith in
    let all = number + 2 ^ bits * value in
    let power : 2 ^ bits ≡ 256 ^ a * 2 ^ r = ap (λ k. 2 ^ k) split ∙ pow-add 2 (8 * a) r ∙ ap (λ p. p * 2 ^ r) (sym (bytes-bits a)) in
    let moved : all ≡ number + 256 ^ a * (2 ^ r * value) = ap (λ p. number + p * value) power ∙ omega arith in
    let high : all / 256 ^ a ≡ number / 256 ^ a + 2 ^ r * value = ap (λ n. n / 256 ^ a) moved ∙ add-mul-div_left number (2 ^ r * value) (subst (λ p. 0 < p) (sym (bytes-bits a)) (pow_pos (8 * a))) in
    let low : bytes_of a all ≡ bytes_of a number = ap (bytes_of a) moved ∙ bytes-low a number (2 ^ r * value) in
    sym (ap (λ k. bytes_of k all) count ∙ bytes-append a ((r + w) / 8) all ∙ ap (λ xs. xs ++ bytes_of ((r + w) / 8) (all / 256 ^ a)) low ∙ ap (λ n. bytes_of a number ++ bytes_of ((r + w) / 8) n) high)

-- what is above the bytes that were written
high-part : (number value bits : ℕ) → (number + 2 ^ bits * value) / 256 ^ (bits / 8) ≡ number / 256 ^ (bits / 8) + 2 ^ (bits % 8) * value
high-part number value bits =
    let a = bits / 8 in
    let r = bits % 8 in
    let split : bits ≡ 8 * a + r = omega arith in
    let power : 2 ^ bits ≡ 256 ^ a * 2 ^ r = ap (λ k. 2 ^ k) split ∙ pow-add 2 (8 * a) r ∙ ap (λ p. p * 2 ^ r) (sym (bytes-bits a)) in
    let moved : number + 2 ^ bits * value ≡ number + 256 ^ a * (2 ^ r * value) = ap (λ p. number + p * value) power ∙ omega arith in
    ap (λ n. n / 256 ^ a) moved ∙ add-mul-div_left number (2 ^ r * value) (subst (λ p. 0 < p) (sym (bytes-bits a)) (pow_pos (8 * a)))

above-fits : (number value bits w : ℕ) → number < 2 ^ bits → value < 2 ^ w → number + 2 ^ bits * value < 2 ^ (bits + w)
above-fits number value bits w small fits = omega (arith, mul-add-lt value (2 ^ bits) number (2 ^ w) fits small, pow-add 2 bits w)

-- at most 64 bits
pub few-bits : (n : ℕ) → n ≤ 64 → 2 ^ n ≤ 18446744073709551616
few-bits n le = pow_mono le

-- what is left of a number, without the bytes that are written of it
pub left-small : (all count w : ℕ) → all < 2 ^ (count + w) → all / 2 ^ ((count + w) / 8 * 8) < 2 ^ ((count + w) % 8)
left-small all count w small =
    let n = (count + w) / 8 * 8 in
    let r = (count + w) % 8 in
    let split : count + w ≡ n + r = omega arith in
    div_below all (2 ^ n) (2 ^ r) (pow_pos n) (omega (arith, small, ap (λ k. 2 ^ k) split, pow-add 2 n r))

pub all-small : (low count value w : ℕ) → low < 2 ^ count → value < 2 ^ w → low + value * 2 ^ count < 2 ^ (count + w)
all-small low count value w small fits = omega (arith, above-fits low value count w small fits)

pub written : (old out new : List ℕ) (rest : Rest) (value w bits number all : ℕ) → IsWritten old out rest bits number → value < 2 ^ w
    → all ≡ rest.bits + value * 2 ^ rest.count → new ≡ out ++ bytes_of ((rest.count + w) / 8) all
    → IsWritten old new (record { bits = all / 2 ^ ((rest.count + w) / 8 * 8); count = (rest.count + w) % 8 }) (bits + w) (number + 2 ^ bits * value)
written old out new rest value w bits number all h fits is pushed =
    let a = bits / 8 in
    let n = (bits % 8 + w) / 8 in
    let high = number / 256 ^ a + 2 ^ (bits % 8) * value in
    let counted : (rest.count + w) / 8 ≡ n = ap (λ c. (c + w) / 8) h.count in
    let all_is : all ≡ high = is ∙ ap (λ c. rest.bits + value * 2 ^ c) h.count ∙ ap (λ b. b + value * 2 ^ (bits % 8)) h.left ∙ omega arith in
    let whole = number + 2 ^ bits * value in
    let far : (bits + w) / 8 ≡ a + n = omega arith in
    record {
      items = pushed ∙ ap (λ xs. xs ++ bytes_of ((rest.count + w) / 8) all) h.items ∙ append_assoc old (bytes_of a number) (bytes_of ((rest.count + w) / 8) all)
          ∙ ap (λ k. old ++ (bytes_of a number ++ bytes_of k all)) counted ∙ ap (λ x. old ++ (bytes_of a number ++ bytes_of n x)) all_is ∙ ap (λ xs. old ++ xs) (step number value bits w h.small);
      left = ap (λ x. x / 2 ^ ((rest.count + w) / 8 * 8)) (all_is ∙ sym (high-part number value bits)) ∙ ap (λ k. whole / 256 ^ a / 2 ^ (k * 8)) counted
          ∙ ap (λ p. whole / p / 2 ^ (n * 8)) (bytes-bits a) ∙ shr-shr whole (8 * a) (n * 8) ∙ ap (λ e. whole / 2 ^ e) (omega arith) ∙ ap (λ p. whole / p) (sym (bytes-bits (a + n))) ∙ ap (λ k. whole / 256 ^ k) (sym far);
      count = omega (arith, h.count);
      small = above-fits number value bits w h.small fits;
    }

pub same-written : (old out : List ℕ) (rest : Rest) (b b' n n' : ℕ) → b ≡ b' → n ≡ n' → IsWritten old out rest b n → IsWritten old out rest b' n'
same-written old out rest b b' n n' eb en h = subst (λ n. IsWritten old out rest b' n) en (subst (λ b. IsWritten old out rest b n) eb h)

regroup-five : (n p q0 q1 q2 q3 a0 a1 a2 a3 a4 : ℕ) → n + p * a0 + p * q0 * a1 + p * q0 * q1 * a2 + p * q0 * q1 * q2 * a3 + p * q0 * q1 * q2 * q3 * a4
    ≡ n + p * (a0 + q0 * (a1 + q1 * (a2 + q2 * (a3 + q3 * a4))))
regroup-five n p q0 q1 q2 q3 a0 a1 a2 a3 a4 = omega arith

-- five values one behind the other, in one number
pub five-values : (n b w0 w1 w2 w3 a0 a1 a2 a3 a4 : ℕ)
    → n + 2 ^ b * a0 + 2 ^ (b + w0) * a1 + 2 ^ (b + w0 + w1) * a2 + 2 ^ (b + w0 + w1 + w2) * a3 + 2 ^ (b + w0 + w1 + w2 + w3) * a4
    ≡ n + 2 ^ b * (a0 + 2 ^ w0 * (a1 + 2 ^ w1 * (a2 + 2 ^ w2 * (a3 + 2 ^ w3 * a4))))
five-values n b w0 w1 w2 w3 a0 a1 a2 a3 a4 =
    let p = 2 ^ b in
    let e1 : 2 ^ (b + w0) ≡ p * 2 ^ w0 = pow-add 2 b w0 in
    let e2 : 2 ^ (b + w0 + w1) ≡ p * 2 ^ w0 * 2 ^ w1 = pow-add 2 (b + w0) w1 ∙ ap (λ x. x * 2 ^ w1) e1 in
    let e3 : 2 ^ (b + w0 + w1 + w2) ≡ p * 2 ^ w0 * 2 ^ w1 * 2 ^ w2 = pow-add 2 (b + w0 + w1) w2 ∙ ap (λ x. x * 2 ^ w2) e2 in
    let e4 : 2 ^ (b + w0 + w1 + w2 + w3) ≡ p * 2 ^ w0 * 2 ^ w1 * 2 ^ w2 * 2 ^ w3 = pow-add 2 (b + w0 + w1 + w2) w3 ∙ ap (λ x. x * 2 ^ w3) e3 in
    ap (λ x. n + p * a0 + x * a1 + 2 ^ (b + w0 + w1) * a2 + 2 ^ (b + w0 + w1 + w2) * a3 + 2 ^ (b + w0 + w1 + w2 + w3) * a4) e1
    ∙ ap (λ x. n + p * a0 + p * 2 ^ w0 * a1 + x * a2 + 2 ^ (b + w0 + w1 + w2) * a3 + 2 ^ (b + w0 + w1 + w2 + w3) * a4) e2
    ∙ ap (λ x. n + p * a0 + p * 2 ^ w0 * a1 + p * 2 ^ w0 * 2 ^ w1 * a2 + x * a3 + 2 ^ (b + w0 + w1 + w2 + w3) * a4) e3
    ∙ ap (λ x. n + p * a0 + p * 2 ^ w0 * a1 + p * 2 ^ w0 * 2 ^ w1 * a2 + p * 2 ^ w0 * 2 ^ w1 * 2 ^ w2 * a3 + x * a4) e4
    ∙ regroup-five n p (2 ^ w0) (2 ^ w1) (2 ^ w2) (2 ^ w3) a0 a1 a2 a3 a4

pub nothing-written : (xs : List ℕ) → IsWritten xs xs (record { bits = 0; count = 0 }) 0 0
unfolding bytes_of
nothing-written xs = record { items = sym (append-nil xs); left = refl; count = refl; small = omega arith }
