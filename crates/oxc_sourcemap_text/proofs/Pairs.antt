-- The second halves of surrogate pairs.
use Rattle.std.proofs.Common.{◌≡◌, ℕ, zero, suc, ◌+◌, ◌-◌, ◌<◌, ◌≤◌, Bool, true, false, List, []}
use Rattle.std.proofs.Common.{◌∷◌, length, get_or, refl, sym, ap, ◌∙◌, arith, ◌⊎◌, inl, inr}
use Rattle.std.specs.Char.Utf16.{is_low_surrogate}
use Rattle.std.proofs.lemmas.Bool.{cases_order}
use Rattle.oxc_sourcemap_text.specs.Scans.{second_halves}

-- at x there is a second half, if the first of these units is at this offset
pub record IsHalf (offset : ℕ) (units : List ℕ) (x : ℕ) : Type 0 where
  pub from : offset ≤ x
  pub low : is_low_surrogate (get_or units (x - offset) 0) ≡ true

further : (offset unit : ℕ) (units : List ℕ) (x : ℕ) → offset + 1 ≤ x → get_or (unit ∷ units) (x - offset) 0 ≡ get_or units (x - (offset + 1)) 0
further offset unit units x h =
    let e : x - offset ≡ suc (x - (offset + 1)) = omega arith in
    rw e

here : (offset unit : ℕ) (units : List ℕ) → get_or (unit ∷ units) (offset - offset) 0 ≡ unit
here offset unit units =
    let e : offset - offset ≡ 0 = omega arith in
    rw e

half-later : (offset unit : ℕ) (units : List ℕ) (x : ℕ) → IsHalf (offset + 1) units x → IsHalf offset (unit ∷ units) x
half-later offset unit units x h = record { from = omega (arith, h.from); low = ap is_low_surrogate (further offset unit units x h.from) ∙ h.low }

half-here : (offset unit : ℕ) (units : List ℕ) → is_low_surrogate unit ≡ true → IsHalf offset (unit ∷ units) offset
half-here offset unit units e = record { from = omega arith; low = ap is_low_surrogate (here offset unit units) ∙ e }

pub first-half : (offset unit : ℕ) (units : List ℕ) → is_low_surrogate unit ≡ true → second_halves offset (unit ∷ units) ≡ offset ∷ second_halves (offset + 1) units
first-half offset unit units e = rw e

pub no-half : (offset unit : ℕ) (units : List ℕ) → is_low_surrogate unit ≡ false → second_halves offset (unit ∷ units) ≡ second_halves (offset + 1) units
no-half offset unit units e = rw e

put-half : (offset unit : ℕ) (units xs : List ℕ) → is_low_surrogate unit ≡ true → ((i : ℕ) → i < length xs → IsHalf (offset + 1) units (get_or xs i 0))
    → (i : ℕ) → i < length (offset ∷ xs) → IsHalf offset (unit ∷ units) (get_or (offset ∷ xs) i 0)
put-half offset unit units xs e rest zero h = half-here offset unit units e
put-half offset unit units xs e rest (suc i) h = half-later offset unit units (get_or xs i 0) (rest i (omega (arith, h)))

are-step : (offset unit : ℕ) (units : List ℕ) (b : Bool) → is_low_surrogate unit ≡ b
    → ((i : ℕ) → i < length (second_halves (offset + 1) units) → IsHalf (offset + 1) units (get_or (second_halves (offset + 1) units) i 0))
    → (i : ℕ) → i < length (second_halves offset (unit ∷ units)) → IsHalf offset (unit ∷ units) (get_or (second_halves offset (unit ∷ units)) i 0)
are-step offset unit units true e rest = rw (first-half offset unit units e) (put-half offset unit units (second_halves (offset + 1) units) e rest)
are-step offset unit units false e rest = rw (no-half offset unit units e) (λ i h. half-later offset unit units _ (rest i h))

-- what is listed is a second half
pub halves-are : (offset : ℕ) (units : List ℕ) (i : ℕ) → i < length (second_halves offset units) → IsHalf offset units (get_or (second_halves offset units) i 0)
halves-are offset [] i h = absurd (omega (arith, h))
halves-are offset (unit ∷ units) i h = are-step offset unit units (is_low_surrogate unit) refl (λ j k. halves-are (offset + 1) units j k) i h

rise-put : (offset : ℕ) (xs : List ℕ) → ((i : ℕ) → i < length xs → offset ≤ get_or xs i 0) → ((i j : ℕ) → i ≤ j → j < length xs → get_or xs i 0 ≤ get_or xs j 0)
    → (i j : ℕ) → i ≤ j → j < length (offset ∷ xs) → get_or (offset ∷ xs) i 0 ≤ get_or (offset ∷ xs) j 0
rise-put offset xs above rest zero zero h k = omega arith
rise-put offset xs above rest zero (suc j) h k = above j (omega (arith, k))
rise-put offset xs above rest (suc i) zero h k = absurd (omega (arith, h))
rise-put offset xs above rest (suc i) (suc j) h k = rest i j (omega (arith, h)) (omega (arith, k))

rise-step : (offset unit : ℕ) (units : List ℕ) (b : Bool) → is_low_surrogate unit ≡ b
    → ((i j : ℕ) → i ≤ j → j < length (second_halves (offset + 1) units) → get_or (second_halves (offset + 1) units) i 0 ≤ get_or (second_halves (offset + 1) units) j 0)
    → (i j : ℕ) → i ≤ j → j < length (second_halves offset (unit ∷ units)) → get_or (second_halves offset (unit ∷ units)) i 0 ≤ get_or (second_halves offset (unit ∷ units)) j 0
rise-step offset unit units true e rest =
    rw (first-half offset unit units e) (rise-put offset (second_halves (offset + 1) units) (λ i h. omega (arith, (halves-are (offset + 1) units i h).from)) rest)
rise-step offset unit units false e rest = rw (no-half offset unit units e) rest

-- they rise
pub halves-rise : (offset : ℕ) (units : List ℕ) (i j : ℕ) → i ≤ j → j < length (second_halves offset units)
    → get_or (second_halves offset units) i 0 ≤ get_or (second_halves offset units) j 0
halves-rise offset [] i j h k = absurd (omega (arith, k))
halves-rise offset (unit ∷ units) i j h k = rise-step offset unit units (is_low_surrogate unit) refl (λ a b c d. halves-rise (offset + 1) units a b c d) i j h k

abbrev pub IsListed : List ℕ → ℕ → Type 0
IsListed xs x = (i : ℕ) × (i < length xs) × (get_or xs i 0 ≡ x)

none-there : (n : ℕ) → is_low_surrogate (get_or [] n 0) ≡ true → ⊥
none-there n e = cc

listed-after : (offset : ℕ) (xs : List ℕ) (x : ℕ) → IsListed xs x → IsListed (offset ∷ xs) x
listed-after offset xs x (i, h, e) = (suc i, omega (arith, h), e)

listed-step : (offset unit : ℕ) (units : List ℕ) (x : ℕ) (b : Bool) → is_low_surrogate unit ≡ b → (x ≡ offset) ⊎ ((x < offset) ⊎ (offset < x)) → IsHalf offset (unit ∷ units) x
    → (IsHalf (offset + 1) units x → IsListed (second_halves (offset + 1) units) x) → IsListed (second_halves offset (unit ∷ units)) x
listed-step offset unit units x true e (inl same) h rest = rw (first-half offset unit units e) (zero, omega arith, sym same)
listed-step offset unit units x false e (inl same) h rest =
    let low : is_low_surrogate (get_or (unit ∷ units) (offset - offset) 0) ≡ true = rw same at h.low in
    let two : is_low_surrogate unit ≡ true = rw (here offset unit units) at low in
    absurd cc
listed-step offset unit units x b e (inr (inl lt)) h rest = absurd (omega (arith, lt, h.from))
listed-step offset unit units x true e (inr (inr gt)) h rest =
    rw (first-half offset unit units e) (listed-after offset (second_halves (offset + 1) units) x (rest (record { from = omega (arith, gt); low = ap is_low_surrogate (sym (further offset unit units x (omega (arith, gt)))) ∙ h.low })))
listed-step offset unit units x false e (inr (inr gt)) h rest =
    rw (no-half offset unit units e) (rest (record { from = omega (arith, gt); low = ap is_low_surrogate (sym (further offset unit units x (omega (arith, gt)))) ∙ h.low }))

-- each second half is listed
pub halves-all : (offset : ℕ) (units : List ℕ) (x : ℕ) → IsHalf offset units x → IsListed (second_halves offset units) x
halves-all offset [] x h = absurd (none-there (x - offset) h.low)
halves-all offset (unit ∷ units) x h = listed-step offset unit units x (is_low_surrogate unit) refl (cases_order x offset) h (λ k. halves-all (offset + 1) units x k)
