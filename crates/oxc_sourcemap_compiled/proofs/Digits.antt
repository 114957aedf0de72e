-- The tokens of a group in one number: it fits into their bits, and each is read back.
use Rattle.std.proofs.Common.{◌≡◌, ℕ, zero, suc, ◌+◌, ◌-◌, ◌*◌, ◌/◌, ◌%◌, ◌^◌, ◌<◌, ◌≤◌, Bool, true}
use Rattle.std.proofs.Common.{false, List, slice_get, nat_lt, refl, sym, ap, ◌∙◌, arith, subst}
use Rattle.std.proofs.Math.Nat.{mod-eq_of_lt, add-mul-div_left, div-eq_of_lt}
use Rattle.std.proofs.lemmas.Nat.{pow_pos, mul-le}
use Rattle.oxc_sourcemap_tokens.specs.Token.{TokenRecord}
use Rattle.oxc_sourcemap_compiled.specs.Compiled.{stride_of, token_bits, first_bits}
use Rattle.oxc_sourcemap_compiled.specs.declared.writing.blocks.Block.{Block}
use Rattle.oxc_sourcemap_compiled.proofs.Bits.{one-more, low-value}

module _ (b : Block) (ts : List TokenRecord) where
  abbrev token : ℕ → ℕ
  token m = token_bits b (slice_get ts m)

  pub first-small : (n : ℕ) → ((m : ℕ) → m < n → token m < 2 ^ stride_of b) → first_bits b ts n < 2 ^ (n * stride_of b)
  first-small zero small = pow_pos (0 * stride_of b)
  first-small (suc n) small =
      let s = stride_of b in
      let next : n * s + s ≡ suc n * s = omega arith in
      subst (λ e. first_bits b ts (suc n) < 2 ^ e) next (one-more (n * s) s (first_bits b ts n) (token n) (first-small n (λ m lt. small m (omega (arith, lt)))) (small n (omega arith)))

  -- the last of so many
  last-read : (n : ℕ) → first_bits b ts n < 2 ^ (n * stride_of b) → token n < 2 ^ stride_of b → first_bits b ts (suc n) / 2 ^ (n * stride_of b) % 2 ^ stride_of b ≡ token n
  last-read n low small =
      let s = stride_of b in
      let none : 0 + token n ≡ token n = omega arith in
      ap (λ q. q % 2 ^ s) (add-mul-div_left (first_bits b ts n) (token n) (pow_pos (n * s)) ∙ ap (λ q. q + token n) (div-eq_of_lt low) ∙ none) ∙ mod-eq_of_lt small

  read-by : (less : Bool) (n m : ℕ) → nat_lt m n ≡ less → m < suc n → ((j : ℕ) → j < suc n → token j < 2 ^ stride_of b)
      → (m < n → first_bits b ts n / 2 ^ (m * stride_of b) % 2 ^ stride_of b ≡ token m) → first_bits b ts (suc n) / 2 ^ (m * stride_of b) % 2 ^ stride_of b ≡ token m
  read-by true n m e lt small more =
      let s = stride_of b in
      let less : m < n = grind (arith, e) in
      let within : suc m * s ≤ n * s = mul-le (suc m) s n s (omega (arith, less)) (omega arith) in
      let rest : m * s + s + (n * s - suc m * s) ≡ n * s = omega (arith, within) in
      low-value (first_bits b ts n) (token n) (n * s) (m * s) s (n * s - suc m * s) rest ∙ more less
  read-by false n m e lt small more =
      let s = stride_of b in
      let past : n ≤ m = grind (arith, e) in
      let same : m ≡ n = omega (arith, past, lt) in
      ap (λ m. first_bits b ts (suc n) / 2 ^ (m * s) % 2 ^ s) same ∙ last-read n (first-small n (λ m lt. small m (omega (arith, lt)))) (small n (omega arith)) ∙ ap token (sym same)

  pub token-read : (n m : ℕ) → m < n → ((j : ℕ) → j < n → token j < 2 ^ stride_of b) → first_bits b ts n / 2 ^ (m * stride_of b) % 2 ^ stride_of b ≡ token m
  token-read zero m lt small = absurd (omega (arith, lt))
  token-read (suc n) m lt small = read-by (nat_lt m n) n m refl lt small (λ less. token-read n m less (λ j below. small j (omega (arith, below))))
