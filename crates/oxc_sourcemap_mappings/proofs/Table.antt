-- The tables are compared with what they are to have at each of the 256 bytes, by computing.
use Rattle.std.proofs.Common.{◌≡◌, ℕ, ◌+◌, ◌<◌, ◌≤◌, ◌≤ℤ◌, ◌<ℤ◌, true, false, nat_lt, List, map}
use Rattle.std.proofs.Common.{get_or, if◌then◌else◌, ℤ, pos, refl, sym, arith, ap, ◌∙◌, to_z}
use Rattle.std.proofs.Common.{of_z, w8, ◌⊎◌, inl, inr}
use Rattle.std.specs.List.{range_with_len}
use Rattle.std.proofs.lemmas.Bool.{cases_lt}
use Rattle.std.proofs.lemmas.Bool.Decides.{nat_tests}
use Rattle.std.proofs.lemmas.Int.{ints}
use Rattle.std.proofs.lemmas.List.FromFn.{get_or-map-range_with_len}
use Rattle.oxc_sourcemap_mappings.specs.Number.{digit, signed}
use Rattle.oxc_sourcemap_mappings.specs.Decoding.{ends_segment}

-- what the table of digits has for a byte
abbrev pub digit_entry : ℕ → ℕ
digit_entry byte = if ends_segment byte then 128 else digit byte

-- what the table of numbers has for a byte
abbrev pub number_entry : ℕ → ℤ
number_entry byte =
    if ends_segment byte then pos 127
    else if nat_lt (digit byte) 32 then signed (digit byte)
    else pos (digit byte + 32)

-- an entry of a table is what it is to have there
pub entry : {X : Type 0} (f : ℕ → X) (table : List X) (b : ℕ) (d : X) → table ≡ map f (range_with_len 0 256) → b < 256 → get_or table b d ≡ f b
entry f table b d e h = ap (λ xs. get_or xs b d) e ∙ get_or-map-range_with_len f 0 256 b b d h (omega arith)

digit-below : (byte : ℕ) → digit byte < 64
unfolding digit
digit-below byte = grind (arith, nat_tests)

pub entry-digit : (b v : ℕ) → v ≡ digit_entry b → v < 64 → (ends_segment b ≡ false) × (v ≡ digit b)
entry-digit b v e h =
    elim (ends_segment b) as (λ m. v ≡ (if m then 128 else digit b) → (m ≡ false) × (v ≡ digit b)) [
      | true ↦ (λ k. absurd (omega arith))
      | false ↦ (λ k. (refl, k))
    ] e

pub entry-mark : (b v : ℕ) → v ≡ digit_entry b → 64 ≤ v → ends_segment b ≡ true
entry-mark b v e h =
    elim (ends_segment b) as (λ m. v ≡ (if m then 128 else digit b) → m ≡ true) [
      | true ↦ (λ k. refl)
      | false ↦ (λ k. absurd (omega (arith, digit-below b)))
    ] e

-- ---- the table of numbers

same : {X : Type 0} (f g : ℕ → X) (b : ℕ) (d : X) → map f (range_with_len 0 256) ≡ map g (range_with_len 0 256) → b < 256 → f b ≡ g b
same f g b d e h = sym (get_or-map-range_with_len f 0 256 b b d h (omega arith)) ∙ entry g (map f (range_with_len 0 256)) b d e h

-- eight bits hold each entry
pub number_entry-fits : (b : ℕ) → b < 256 → to_z w8 (of_z w8 (number_entry b)) ≡ number_entry b
unfolding digit
number_entry-fits b h = same (λ n. to_z w8 (of_z w8 (number_entry n))) number_entry b (pos 0) refl h

pub number_at : (table : List ℤ) (b : ℕ) → table ≡ map number_entry (range_with_len 0 256) → b < 256 → to_z w8 (of_z w8 (get_or table b (pos 0))) ≡ number_entry b
number_at table b e h = ap (λ z. to_z w8 (of_z w8 z)) (entry number_entry table b (pos 0) e h) ∙ number_entry-fits b h

signed-below : (d : ℕ) → d < 32 → signed d <ℤ pos 64
signed-below d h = grind (arith, ints, nat_tests)

-- an entry is 127, the number of its byte, or 32 more than its digit
by_kind : (b : ℕ) (z : ℤ) → z ≡ number_entry b → ((ends_segment b ≡ true) × (z ≡ pos 127)) ⊎ (((ends_segment b ≡ false) × (digit b < 32) × (z ≡ signed (digit b))) ⊎ ((ends_segment b ≡ false) × (32 ≤ digit b) × (z ≡ pos (digit b + 32))))
by_kind b z e =
    elim (ends_segment b) as (λ m. z ≡ (if m then pos 127 else if nat_lt (digit b) 32 then signed (digit b) else pos (digit b + 32)) → ((m ≡ true) × (z ≡ pos 127)) ⊎ (((m ≡ false) × (digit b < 32) × (z ≡ signed (digit b))) ⊎ ((m ≡ false) × (32 ≤ digit b) × (z ≡ pos (digit b + 32))))) [
      | true ↦ (λ k. inl (refl, k))
      | false ↦ (λ k. elim (cases_lt (digit b) 32) [
        | inl l ↦ (let t : nat_lt (digit b) 32 ≡ true = grind (arith, nat_tests) in inr (inl (refl, l, rw t at k)))
        | inr l ↦ (let t : nat_lt (digit b) 32 ≡ false = grind (arith, nat_tests) in inr (inr (refl, l, rw t at k)))
      ])
    ] e

pub entry-number : (b : ℕ) (z : ℤ) → z ≡ number_entry b → z <ℤ pos 64 → (ends_segment b ≡ false) × (digit b < 32) × (z ≡ signed (digit b))
entry-number b z e h = elim (by_kind b z e) [ inl m ↦ absurd (omega (arith, ints, m.1)) | inr k ↦ elim k [ inl n ↦ n | inr d ↦ absurd (omega (arith, ints, d.2)) ] ]

pub entry-more : (b : ℕ) (z : ℤ) → z ≡ number_entry b → pos 64 ≤ℤ z → z <ℤ pos 96 → (ends_segment b ≡ false) × (32 ≤ digit b) × (z ≡ pos (digit b + 32))
entry-more b z e h l = elim (by_kind b z e) [ inl m ↦ absurd (omega (arith, ints, m.1)) | inr k ↦ elim k [ inl n ↦ absurd (omega (arith, ints, n.2, signed-below (digit b) n.1)) | inr d ↦ d ] ]

pub entry-end : (b : ℕ) (z : ℤ) → z ≡ number_entry b → pos 96 ≤ℤ z → ends_segment b ≡ true
entry-end b z e h = elim (by_kind b z e) [ inl m ↦ m.0 | inr k ↦ elim k [ inl n ↦ absurd (omega (arith, ints, n.2, signed-below (digit b) n.1)) | inr d ↦ absurd (omega (arith, ints, d.2, digit-below b)) ] ]
