-- The digits that are written are the digits that are read.
use Rattle.std.proofs.Common.{◌≡◌, ℕ, zero, suc, ◌+◌, ◌-◌, ◌*◌, ◌/◌, ◌%◌, ◌^◌, ◌<◌, ◌≤◌, true}
use Rattle.std.proofs.Common.{false, nat_lt, List, [], ◌∷◌, ◌++◌, length, map, pos, ◌+ℤ◌, arith}
use Rattle.std.proofs.Common.{refl, ap, ◌∙◌, lit<, inl, inr, add-zero, add-one}
use Rattle.std.specs.List.{AllByRecursion}
use Rattle.std.proofs.Math.Nat.{pow-suc}
use Rattle.std.proofs.lemmas.Bool.{cases_lt}
use Rattle.std.proofs.lemmas.Bool.Decides.{nat_tests}
use Rattle.std.proofs.lemmas.List.{get_or_past}
use Rattle.std.proofs.lemmas.Int.{ints}
use Rattle.oxc_sourcemap_mappings.specs.Number.{digit, ends_run, raw_from, signed, number}
use Rattle.oxc_sourcemap_mappings.specs.Number.{is_fitting, is_open}
use Rattle.oxc_sourcemap_mappings.specs.Parts.{runs}
use Rattle.oxc_sourcemap_mappings.specs.Faults.{digit_fault}
use Rattle.oxc_sourcemap_mappings.specs.Canonical.{digits, vlq_text, letter, raw_delta}
use Rattle.oxc_sourcemap_mappings.proofs.Vlq.{digits_zero, digits_small, digits_large}
use Rattle.oxc_sourcemap_mappings.proofs.Length.{length-digits}

digit-letter : (d : ℕ) → d < 64 → digit (letter d) ≡ d
unfolding digit letter
digit-letter d h = grind (arith, nat_tests)

pub digits-below : (f n : ℕ) → n ≤ f → AllByRecursion (λ d. d < 64) (digits f n)
digits-below zero n h = rw (digits_zero n) (omega arith, tt)
digits-below (suc f) n h =
    elim (cases_lt n 32) [
      | inl s ↦ rw (digits_small (suc f) n s) (omega arith, tt)
      | inr l ↦ rw (digits_large f n l) (omega arith, digits-below f (n / 32) (omega arith))
    ]

map-digit : (ds : List ℕ) → AllByRecursion (λ d. d < 64) ds → map digit (map letter ds) ≡ ds
map-digit [] h = refl
map-digit (d ∷ ds) h = rw (digit-letter d h.0, map-digit ds h.1)

pub digit-vlq_text : (n : ℕ) → map digit (vlq_text n) ≡ digits n n
unfolding vlq_text
digit-vlq_text n = map-digit (digits n n) (digits-below n n (omega arith))

-- a digit below 32 is a run by itself
runs-small : (n : ℕ) (rest : List ℕ) → n < 32 → runs (n ∷ rest) ≡ (n ∷ []) ∷ runs rest
runs-small n rest s = let t : ends_run n ≡ true = grind (arith, nat_tests) in rw t

runs-large : (d : ℕ) (rest run : List ℕ) (more : List (List ℕ)) → 32 ≤ d → runs rest ≡ run ∷ more → runs (d ∷ rest) ≡ (d ∷ run) ∷ more
runs-large d rest run more s e = let t : ends_run d ≡ false = grind (arith, nat_tests) in rw (t, e)

pub runs-digits : (f n : ℕ) (rest : List ℕ) → n ≤ f → runs (digits f n ++ rest) ≡ digits f n ∷ runs rest
runs-digits zero n rest h = rw (digits_zero n) (runs-small n rest (omega arith))
runs-digits (suc f) n rest h =
    elim (cases_lt n 32) [
      | inl s ↦ rw (digits_small (suc f) n s) (runs-small n rest s)
      | inr l ↦ rw (digits_large f n l) (runs-large (n % 32 + 32) (digits f (n / 32) ++ rest) (digits f (n / 32)) (runs rest) (omega arith) (runs-digits f (n / 32) rest (omega arith)))
    ]

raw_from-small : (n exponent : ℕ) → n < 32 → raw_from exponent (n ∷ []) ≡ n * 32 ^ exponent
raw_from-small n exponent s = let e : n % 32 ≡ n = omega arith in rw (e, add-zero)

raw_from-sum : (r q p n : ℕ) → n ≡ 32 * q + r → r * p + q * (p * 32) ≡ n * p
raw_from-sum r q p n e = rw e (omega arith)

raw_from-large : (n exponent : ℕ) (ds : List ℕ) → raw_from (exponent + 1) ds ≡ n / 32 * 32 ^ (exponent + 1) → raw_from exponent ((n % 32 + 32) ∷ ds) ≡ n * 32 ^ exponent
raw_from-large n exponent ds e =
    let k : (n % 32 + 32) % 32 ≡ n % 32 = omega arith in
    let w : 32 ^ (exponent + 1) ≡ 32 ^ exponent * 32 = rw add-one (pow-suc 32 exponent) in
    rw (k, e, w) (raw_from-sum (n % 32) (n / 32) (32 ^ exponent) n (omega arith))

raw_from-digits : (f n exponent : ℕ) → n ≤ f → raw_from exponent (digits f n) ≡ n * 32 ^ exponent
raw_from-digits zero n exponent h = rw (digits_zero n) (raw_from-small n exponent (omega arith))
raw_from-digits (suc f) n exponent h =
    elim (cases_lt n 32) [
      | inl s ↦ rw (digits_small (suc f) n s) (raw_from-small n exponent s)
      | inr l ↦ rw (digits_large f n l) (raw_from-large n exponent (digits f (n / 32)) (raw_from-digits f (n / 32) (exponent + 1) (omega arith)))
    ]

pub number-digits : (n : ℕ) → number (digits n n) ≡ signed n
number-digits n = let e : raw_from 0 (digits n n) ≡ n = raw_from-digits n n 0 (omega arith) ∙ omega arith in ap signed e

-- ---- the run of a raw number: not empty, closed, fitting
pub length-digits-pos : (f n : ℕ) → 0 < length (digits f n)
length-digits-pos zero n = rw (digits_zero n) (lit< tt)
length-digits-pos (suc f) n =
    elim (cases_lt n 32) [
      | inl s ↦ rw (digits_small (suc f) n s) (lit< tt)
      | inr l ↦ rw (digits_large f n l) (omega arith)
    ]

is_open-on : (d : ℕ) (ds : List ℕ) → 0 < length ds → is_open ds ≡ false → is_open (d ∷ ds) ≡ false
is_open-on d [] h e = absurd (omega arith)
is_open-on d (x ∷ ds) h e = e

is_open-cons : (d f n : ℕ) → is_open (digits f n) ≡ false → is_open (d ∷ digits f n) ≡ false
is_open-cons d f n h = is_open-on d (digits f n) (length-digits-pos f n) h

is_open-digits : (f n : ℕ) → n ≤ f → is_open (digits f n) ≡ false
is_open-digits zero n h = rw (digits_zero n) (grind (arith, nat_tests))
is_open-digits (suc f) n h =
    elim (cases_lt n 32) [
      | inl s ↦ rw (digits_small (suc f) n s) (grind (arith, nat_tests))
      | inr l ↦ rw (digits_large f n l) (is_open-cons (n % 32 + 32) f (n / 32) (is_open-digits f (n / 32) (omega arith)))
    ]

is_fitting-digits : (n : ℕ) → n < 34359738368 → is_fitting (digits n n) ≡ true
is_fitting-digits n h =
    let l = length-digits 6 n n h in
    rw (get_or_past (digits n n) 12 0 (omega arith)) (grind (arith, nat_tests, l))

pub digit_fault-digits : (n : ℕ) (more : List (List ℕ)) → n < 34359738368 → digit_fault (digits n n ∷ more) ≡ digit_fault more
unfolding digit_fault
digit_fault-digits n more h = rw (is_fitting-digits n h, is_open-digits n n (omega arith))

-- the number of the delta a - b, added to b, is a
pub raw_delta-says : (a b : ℕ) → pos b +ℤ signed (raw_delta a b) ≡ pos a
raw_delta-says a b =
    elim (cases_lt a b) [
      | inl l ↦ (let t : nat_lt a b ≡ true = grind (arith, nat_tests) in
          let m : (2 * (b - a) + 1) % 2 ≡ 1 = omega arith in
          let d : (2 * (b - a) + 1) / 2 ≡ b - a = omega arith in
          rw (t, m, d) (omega (arith, ints)))
      | inr g ↦ (let t : nat_lt a b ≡ false = grind (arith, nat_tests) in
          let m : (2 * (a - b)) % 2 ≡ 0 = omega arith in
          let d : (2 * (a - b)) / 2 ≡ a - b = omega arith in
          rw (t, m, d) (omega (arith, ints)))
    ]
