-- How many tokens a text has: as many as segments begin in it.
use Rattle.std.proofs.Common.{◌≡◌, ℕ, suc, ◌+◌, ◌<◌, ◌≤◌, Bool, true, false, List, [], ◌∷◌, length}
use Rattle.std.proofs.Common.{drop}
use Rattle.std.proofs.Common.{if◌then◌else◌, arith, refl, ap, inl, inr, ◌⊎◌, Some, slice_get}
use Rattle.oxc_sourcemap_mappings.specs.Number.{digit}
use Rattle.oxc_sourcemap_mappings.specs.Decoding.{ends_segment, front_digits, segments_after}

pub segments-le : (is_inside : Bool) (xs : List ℕ) → segments_after is_inside xs ≤ length xs
segments-le is_inside [] = omega arith
segments-le is_inside (x ∷ xs) =
    elim (ends_segment x) as (λ v. (if v then segments_after false xs else (if is_inside then segments_after true xs else 1 + segments_after true xs)) ≤ suc (length xs)) [
      | true ↦ omega (arith, segments-le false xs)
      | false ↦ elim is_inside as (λ v. (if v then segments_after true xs else 1 + segments_after true xs) ≤ suc (length xs)) [
        | true ↦ omega (arith, segments-le true xs)
        | false ↦ omega (arith, segments-le true xs)
      ]
    ]

-- one byte further, past a `,` or a `;`
pub segments-mark : (text : List ℕ) (b : ℕ) → slice_get text 0 ≡ Some b → ends_segment b ≡ true → segments_after false (drop 1 text) ≡ segments_after false text
segments-mark [] b e h = cc
segments-mark (a ∷ text) b e h = let k : a ≡ b = cc in rw (k, h) refl

-- within a segment, those that are left begin after it
pub segments-left : (text : List ℕ) → segments_after true text ≡ segments_after false (drop (length (front_digits text)) text)
segments-left [] = refl
segments-left (b ∷ bs) =
    elim (ends_segment b) as (λ v. ends_segment b ≡ v → (if v then segments_after false bs else segments_after true bs) ≡ segments_after false (drop (length (if v then [] else digit b ∷ front_digits bs)) (b ∷ bs))) [
      | true ↦ λ e. rw e refl
      | false ↦ λ e. segments-left bs
    ] refl

-- in a text that begins with a segment, one more segment begins than after it
pub segments-token : (text : List ℕ) (b : ℕ) → slice_get text 0 ≡ Some b → ends_segment b ≡ false → segments_after false text ≡ 1 + segments_after false (drop (length (front_digits text)) text)
segments-token [] b e h = cc
segments-token (a ∷ text) b e h = let k : a ≡ b = cc in rw (k, h) (ap (λ n. 1 + n) (segments-left text))

-- a `,` at the front does not change how many segments begin
pub segments-comma : (text rest : List ℕ) → (text ≡ rest) ⊎ (text ≡ 44 ∷ rest) → segments_after false rest ≡ segments_after false text
segments-comma text rest (inl e) = rw e refl
segments-comma text rest (inr e) = rw e refl

-- a text with digits at its front begins with a byte of a segment
pub begins-inside : (text : List ℕ) (b : ℕ) → slice_get text 0 ≡ Some b → 0 < length (front_digits text) → ends_segment b ≡ false
begins-inside [] b e h = cc
begins-inside (a ∷ text) b e h =
    let k : a ≡ b = cc in
    elim (ends_segment b) as (λ v. ends_segment b ≡ v → v ≡ false) [
      | true ↦ (λ v. let none : length (front_digits (a ∷ text)) ≡ 0 = rw (k, v) refl in absurd (omega arith))
      | false ↦ (λ v. refl)
    ] refl
