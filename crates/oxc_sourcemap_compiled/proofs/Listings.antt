-- The lines that have tokens, listed token by token.
use Rattle.std.proofs.Common.{◌≡◌, ℕ, ◌+◌, ◌-◌, ◌<◌, ◌≤◌, Bool, true, false, List, [], ◌∷◌, ◌++◌}
use Rattle.std.proofs.Common.{length, get_or, nat_lt, refl, sym, ap, ◌∙◌, arith, length-append}
use Rattle.oxc_sourcemap_tokens.specs.Token.{TokenRecord}
use Rattle.oxc_sourcemap_parts.specs.Sorted.{are_tokens_sorted}
use Rattle.oxc_sourcemap_parts.proofs.Order.{sorted_in_order}
use Rattle.oxc_sourcemap_lookup.proofs.LineIndices.{lines-rise}
use Rattle.oxc_sourcemap_compiled.proofs.Slices.{up-to, pushed-last, pushed-front}

-- the lines of the first n tokens are listed, and the next that is not has at least this number
pub record IsListing (ts : List TokenRecord) (n : ℕ) (lines : List ℕ) (next : ℕ) : Type 0 where
  pub few : length lines ≤ n
  pub rise : (k : ℕ) → k + 1 < length lines → get_or lines k 0 < get_or lines (k + 1) 0
  pub below : (k : ℕ) → k < length lines → get_or lines k 0 < next
  pub each : (i : ℕ) (d : TokenRecord) → i < n → (k : ℕ) × (k < length lines) × (get_or lines k 0 ≡ (get_or ts i d).dst_line)
  pub next_is : (d : TokenRecord) → 0 < n → next ≡ (get_or ts (n - 1) d).dst_line + 1
  pub start : n ≡ 0 → next ≡ 0

module _ (ts : List TokenRecord) (n line next : ℕ) (lines : List ℕ) (there : n < length ts) (is : (d : TokenRecord) → (get_or ts n d).dst_line ≡ line) (h : IsListing ts n lines next) where
  size : length (lines ++ line ∷ []) ≡ length lines + 1
  size = length-append lines (line ∷ [])

  last : get_or (lines ++ line ∷ []) (length lines) 0 ≡ line
  last = pushed-last lines line (length lines) 0 refl

  front : (k : ℕ) → k < length lines → get_or (lines ++ line ∷ []) k 0 ≡ get_or lines k 0
  front k lt = pushed-front lines line k (length lines) 0 refl lt

  rise-by : next ≤ line → (b : Bool) (k : ℕ) → nat_lt (k + 1) (length lines) ≡ b → k + 1 < length (lines ++ line ∷ []) → get_or (lines ++ line ∷ []) k 0 < get_or (lines ++ line ∷ []) (k + 1) 0
  rise-by past true k e lt =
      let less : k + 1 < length lines = grind (arith, e) in
      omega (arith, h.rise k less, front k (omega (arith, less)), front (k + 1) less)
  rise-by past false k e lt =
      let more : length lines ≤ k + 1 = grind (arith, e) in
      let at : k + 1 ≡ length lines = omega (arith, more, lt, size) in
      omega (arith, h.below k (omega (arith, at)), front k (omega (arith, at)), past, ap (λ m. get_or (lines ++ line ∷ []) m 0) at, last)

  pub listing-push : next ≤ line → IsListing ts (n + 1) (lines ++ line ∷ []) (line + 1)
  listing-push past = record {
    few = omega (arith, size, h.few);
    rise = λ k lt. rise-by past (nat_lt (k + 1) (length lines)) k refl lt;
    below = λ k lt. up-to (λ k. get_or (lines ++ line ∷ []) k 0 < line + 1) (length lines) k (λ k less. omega (arith, h.below k less, front k less, past)) (omega (arith, last)) (omega (arith, lt, size));
    each = λ i d lt. up-to (λ i. (k : ℕ) × (k < length (lines ++ line ∷ [])) × (get_or (lines ++ line ∷ []) k 0 ≡ (get_or ts i d).dst_line)) n i
        (λ i less. let old = h.each i d less in (old.0, omega (arith, old.1, size), front old.0 old.1 ∙ old.2))
        (length lines, omega (arith, size), last ∙ sym (is d)) lt;
    next_is = λ d some.
        let back : n + 1 - 1 ≡ n = omega arith in
        omega (arith, is d, ap (λ m. (get_or ts m d).dst_line) back);
    start = λ e. absurd (omega (arith, e));
  }

  pub listing-skip : are_tokens_sorted ts ≡ true → line < next → IsListing ts (n + 1) lines next
  listing-skip sorted lt = record {
    few = omega (arith, h.few);
    rise = h.rise;
    below = h.below;
    each = λ i d less. up-to (λ i. (k : ℕ) × (k < length lines) × (get_or lines k 0 ≡ (get_or ts i d).dst_line)) n i (λ i lower. h.each i d lower)
        (let old = h.each (n - 1) d (omega (arith, some)) in (old.0, old.1, omega (arith, old.2, same d))) less;
    next_is = λ d more.
        let back : n + 1 - 1 ≡ n = omega arith in
        omega (arith, h.next_is d some, same d, ap (λ m. (get_or ts m d).dst_line) back);
    start = λ e. absurd (omega (arith, e));
  } where
    some-by : (b : Bool) → nat_lt 0 n ≡ b → 0 < n
    some-by true e = grind (arith, e)
    some-by false e =
        let none : n ≡ 0 = grind (arith, e) in
        absurd (omega (arith, h.start none, lt))

    some : 0 < n
    some = some-by (nat_lt 0 n) refl

    same : (d : TokenRecord) → (get_or ts (n - 1) d).dst_line ≡ (get_or ts n d).dst_line
    same d =
        let up = lines-rise ts (sorted_in_order ts sorted) (n - 1) n d (omega arith) there in
        omega (arith, up, h.next_is d some, is d, lt)
