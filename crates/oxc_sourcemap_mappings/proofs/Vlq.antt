-- The digits of a raw number, one at a time.
use Rattle.std.proofs.Common.{◌≡◌, ℕ, zero, suc, ◌+◌, ◌/◌, ◌%◌, ◌<◌, ◌≤◌, true, false, cond, List}
use Rattle.std.proofs.Common.{[], ◌∷◌, ◌++◌, map, nat_lt, arith, refl, sym, ap, ◌∙◌, append_assoc}
use Rattle.std.proofs.Common.{inl, inr}
use Rattle.std.proofs.lemmas.Bool.{cases_lt}
use Rattle.std.specs.List.{AllByRecursion}
use Rattle.std.proofs.lemmas.Bool.Decides.{nat_tests}
use Rattle.oxc_sourcemap_mappings.specs.Canonical.{digits, letter, vlq_text}
use Rattle.oxc_sourcemap_mappings.specs.Encoding.{OnlyAdds}

digits-suc : (f n : ℕ) → digits (suc f) n ≡ cond (nat_lt n 32) (n ∷ []) ((n % 32 + 32) ∷ digits f (n / 32))
unfolding digits
digits-suc f n = elim (nat_lt n 32) as (λ b. elim b [ true ↦ n ∷ [] | false ↦ (n % 32 + 32) ∷ digits f (n / 32) ] ≡ cond b (n ∷ []) ((n % 32 + 32) ∷ digits f (n / 32))) [ true ↦ refl | false ↦ refl ]

pub digits_small : (f n : ℕ) → n < 32 → digits f n ≡ n ∷ []
unfolding digits
digits_small zero n h = refl
digits_small (suc f) n h = let t : nat_lt n 32 ≡ true = grind (arith, nat_tests) in digits-suc f n ∙ rw t

pub digits_large : (f n : ℕ) → 32 ≤ n → digits (suc f) n ≡ (n % 32 + 32) ∷ digits f (n / 32)
digits_large f n h = let t : nat_lt n 32 ≡ false = grind (arith, nat_tests) in digits-suc f n ∙ rw t

pub digits_turns : (f g n : ℕ) → n ≤ f → n ≤ g → digits f n ≡ digits g n
digits_turns zero g n h k = let s : n < 32 = omega arith in digits_small zero n s ∙ sym (digits_small g n s)
digits_turns (suc f) zero n h k = let s : n < 32 = omega arith in digits_small (suc f) n s ∙ sym (digits_small zero n s)
digits_turns (suc f) (suc g) n h k =
    elim (cases_lt n 32) [
      | inl s ↦ digits_small (suc f) n s ∙ sym (digits_small (suc g) n s)
      | inr l ↦ digits_large f n l ∙ ap (λ ds. (n % 32 + 32) ∷ ds) (digits_turns f g (n / 32) (omega arith) (omega arith)) ∙ sym (digits_large g n l)
    ]

pub vlq_text_small : (n : ℕ) → n < 32 → vlq_text n ≡ letter n ∷ []
unfolding vlq_text
vlq_text_small n h = ap (map letter) (digits_small n n h)

pub vlq_text_large : (n : ℕ) → 32 ≤ n → vlq_text n ≡ letter (n % 32 + 32) ∷ vlq_text (n / 32)
unfolding vlq_text
vlq_text_large n h =
    ap (map letter) (digits_turns n (suc n) n (omega arith) (omega arith) ∙ digits_large n n h)
    ∙ ap (λ ds. letter (n % 32 + 32) ∷ map letter ds) (digits_turns n (n / 32) (n / 32) (omega arith) (omega arith))

-- one more character of the text of a raw number
pub vlq_text_more : (out now : List ℕ) (n : ℕ) → 32 ≤ n → now ≡ out ++ letter (n % 32 + 32) ∷ [] → now ++ vlq_text (n / 32) ≡ out ++ vlq_text n
vlq_text_more out now n h e = rw (e, vlq_text_large n h) (append_assoc out (letter (n % 32 + 32) ∷ []) (vlq_text (n / 32)))

pub vlq_text_last : (out now : List ℕ) (n : ℕ) → n < 32 → now ≡ out ++ letter n ∷ [] → now ≡ out ++ vlq_text n
vlq_text_last out now n h e = rw (e, vlq_text_small n h)

-- two ASCII texts, one after the other, are ASCII
all-append : (xs ys : List ℕ) → AllByRecursion (λ b. b < 128) xs → AllByRecursion (λ b. b < 128) ys → AllByRecursion (λ b. b < 128) (xs ++ ys)
all-append [] ys h k = k
all-append (x ∷ xs) ys h k = (h.0, all-append xs ys h.1 k)

pub grows-plain : (a b more : List ℕ) → b ≡ a ++ more → AllByRecursion (λ x. x < 128) more → OnlyAdds a b
grows-plain a b more e h base g = (g.0 ++ more, e ∙ ap (λ xs. xs ++ more) g.1 ∙ append_assoc base g.0 more, all-append g.0 more g.2 h)

pub digits_zero : (n : ℕ) → digits zero n ≡ n ∷ []
unfolding digits
digits_zero n = refl
