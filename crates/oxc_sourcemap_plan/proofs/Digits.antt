-- That the numbers of arguments are read by their digits.
use Rattle.std.proofs.Common.{◌≡◌, ◌≢◌, ℕ, ◌^◌, ◌<◌, Bool, true, false, ◌&&◌, cond, nat_lt}
use Rattle.std.proofs.Common.{List, [], ◌∷◌, get_or, Some, None, Result, Ok, Err, arith, refl, ap}
use Rattle.std.specs.Result.{OkIff, result_ok}
use Rattle.std.specs.List.{list_all}
use Rattle.std.specs.Char.{digit_value}
use Rattle.std.specs.Str.Parse.{AllDigits, IsNumeral, digits_value, without_leading_plus}
use Rattle.std.proofs.lemmas.Str.Parse.{without_leading_plus_none}
use Rattle.std.proofs.lemmas.Bool.Decides.{nat_tests}
use Rattle.oxc_sourcemap_plan.specs.Numbers.{is_decimal_digit, is_numeral, number_of}

digits-all : (bs : List ℕ) → AllDigits 10 bs → list_all is_decimal_digit bs ≡ true
digits-all [] h = refl
digits-all (b ∷ bs) h = let t : nat_lt (digit_value b) 10 ≡ true = grind (arith, nat_tests, h.0) in rw (t, digits-all bs h.1)

all-digits : (bs : List ℕ) → list_all is_decimal_digit bs ≡ true → AllDigits 10 bs
all-digits [] h = tt
all-digits (b ∷ bs) h =
    elim (nat_lt (digit_value b) 10) as (λ v. nat_lt (digit_value b) 10 ≡ v → (v && list_all is_decimal_digit bs) ≡ true → AllDigits 10 (b ∷ bs)) [
      | true ↦ (λ t g. (grind (arith, nat_tests), all-digits bs g))
      | false ↦ (λ t g. cc)
    ] refl h

numeral-test : (argument : List ℕ) → IsNumeral 10 argument → is_numeral argument ≡ true
numeral-test [] h = absurd (omega arith)
numeral-test (b ∷ bs) h = digits-all (b ∷ bs) h.1

test-numeral : (argument : List ℕ) → is_numeral argument ≡ true → IsNumeral 10 argument
test-numeral [] h = cc
test-numeral (b ∷ bs) h = (omega arith, all-digits (b ∷ bs) h)

both-true : (a b : Bool) → (a && b) ≡ true → (a ≡ true) × (b ≡ true)
both-true true b e = (refl, e)
both-true false b e = cc

-- an argument that begins with a plus sign is no number
pub number_of-plus : (argument : List ℕ) → get_or argument 0 0 ≡ 43 → number_of argument ≡ None
number_of-plus [] e = refl
number_of-plus (b ∷ bs) e = rw e refl

-- the result of `parse` for an argument without a plus sign
pub number_of-parse : {E : Type 0} (argument : List ℕ) (r : Result ℕ E) → get_or argument 0 0 ≢ 43 → OkIff r (IsNumeral 10 (without_leading_plus argument) × (digits_value 10 (without_leading_plus argument) < 2 ^ 32)) (digits_value 10 (without_leading_plus argument)) → result_ok r ≡ number_of argument
number_of-parse argument (Ok x) n h =
    let plain = without_leading_plus_none argument n in
    let k : (IsNumeral 10 argument × (digits_value 10 argument < 2 ^ 32)) × (x ≡ digits_value 10 argument) = rw plain at h in
    let t : nat_lt (digits_value 10 argument) 4294967296 ≡ true = grind (arith, nat_tests, k.0.1) in
    rw (numeral-test argument k.0.0, t) (ap Some k.1)
number_of-parse argument (Err e) n h =
    let plain = without_leading_plus_none argument n in
    let k : IsNumeral 10 argument × (digits_value 10 argument < 2 ^ 32) → ⊥ = rw plain at h in
    elim (is_numeral argument && nat_lt (digits_value 10 argument) 4294967296) as (λ v. (is_numeral argument && nat_lt (digits_value 10 argument) 4294967296) ≡ v → None ≡ cond v (Some (digits_value 10 argument)) None) [
      | true ↦ (λ t. let b = both-true (is_numeral argument) _ t in absurd (k (test-numeral argument b.0, grind (arith, nat_tests, b.1))))
      | false ↦ (λ t. refl)
    ] refl
