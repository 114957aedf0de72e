-- Lookups in a sorted list, by going over its items; the items that a lookup may find.
use Rattle.std.proofs.Common.{◌≡◌, ◌≢◌, ℕ, ◌+◌, ◌<◌, ◌≤◌, true, false, cond, ◌==◌, ◌&&◌, nat_le}
use Rattle.std.proofs.Common.{nat_lt, Option, Some, List, [], ◌∷◌, refl, ◌∙◌, arith}
use Rattle.std.proofs.lemmas.Bool.{and_parts}
use Rattle.std.proofs.lemmas.Bool.Decides.{nat_tests}
use Rattle.oxc_sourcemap_steps.specs.Simple.{is_further, is_followed, found_after, are_together}

module _ {A : Type 0} (line column : A → ℕ) (n col : ℕ) where
  -- what a lookup finds that goes over items from the first one on, if this was found so far
  abbrev pub scan : Option A → List A → Option A
  scan cur [] = cur
  scan cur (x ∷ xs) = cond (line x == n) (cond (nat_lt (column x) col) (scan (Some x) xs) (cond (column x == col) (Some x) cur)) (scan cur xs)

  -- the items before are in front of the column, as far as they are on the line
  abbrev pub Reached : List A → Type 0
  Reached [] = Unit {0}
  Reached (x ∷ before) = line x ≡ n → column x < col

  scan-same : (cur : Option A) (x : A) (xs ys : List A) → (line x ≡ n → column x < col → scan (Some x) xs ≡ scan (Some x) ys) → (line x ≢ n → scan cur xs ≡ scan cur ys)
      → scan cur (x ∷ xs) ≡ scan cur (x ∷ ys)
  scan-same cur x xs ys on off =
      elim (line x == n) as (λ b. (line x == n) ≡ b → cond b (cond (nat_lt (column x) col) (scan (Some x) xs) (cond (column x == col) (Some x) cur)) (scan cur xs)
      ≡ cond b (cond (nat_lt (column x) col) (scan (Some x) ys) (cond (column x == col) (Some x) cur)) (scan cur ys)) [
        | true ↦ (λ e. elim (nat_lt (column x) col) as (λ b. nat_lt (column x) col ≡ b → cond b (scan (Some x) xs) (cond (column x == col) (Some x) cur) ≡ cond b (scan (Some x) ys) (cond (column x == col) (Some x) cur)) [
          | true ↦ (λ f. on (grind (arith, nat_tests, e)) (grind (arith, nat_tests, f)))
          | false ↦ (λ f. refl)
        ] refl)
        | false ↦ (λ e. off (grind (arith, nat_tests, e)))
      ] refl

  -- an item at a position in front of the column changes nothing if the next one is at the next column at most
  passed : (cur : Option A) (x y : A) (ys : List A) → (line x ≡ n → column x < col) → line x ≡ line y → column y ≤ column x + 1 → scan cur (y ∷ ys) ≡ scan cur (x ∷ y ∷ ys)
  passed cur x y ys r e f = grind (arith, nat_tests, r, e, f)

  together-reached : (p x : A) → (line p ≡ n → column p < col) → are_together line column p x ≡ true → line x ≡ n → column x < col
  together-reached p x r e f =
      let parts = and_parts (line p == line x) (column p == column x) e in
      grind (arith, nat_tests, parts.0, parts.1, r, f)

  close : (x y : A) → (line x == line y && nat_le (column y) (column x + 1)) ≡ true → (line x ≡ line y) × (column y ≤ column x + 1)
  close x y e =
      let parts = and_parts (line x == line y) (nat_le (column y) (column x + 1)) e in
      (grind (arith, nat_tests, parts.0), grind (arith, nat_tests, parts.1))

  found-passed : (cur : Option A) (before : List A) (x : A) (xs : List A) → Reached before → (is_further line column before x && is_followed line column x xs) ≡ true
      → (Reached (x ∷ before)) × (scan cur xs ≡ scan cur (x ∷ xs))
  found-passed cur [] x xs r e = cc
  found-passed cur (p ∷ before) x [] r e = let parts = and_parts (are_together line column p x) false e in absurd (let f : false ≡ true = parts.1 in cc)
  found-passed cur (p ∷ before) x (y ∷ ys) r e =
      let parts = and_parts (are_together line column p x) (is_followed line column x (y ∷ ys)) e in
      let reached = together-reached p x r parts.0 in
      let near = close x y parts.1 in
      (reached, passed cur x y ys reached near.0 near.1)

  pub found-scan : (cur : Option A) (before xs : List A) → Reached before → scan cur (found_after line column before xs) ≡ scan cur xs
  found-scan cur before [] r = refl
  found-scan cur before (x ∷ xs) r =
      elim (is_further line column before x && is_followed line column x xs) as (λ b. (is_further line column before x && is_followed line column x xs) ≡ b
      → scan cur (cond b (found_after line column (x ∷ before) xs) (x ∷ found_after line column (x ∷ before) xs)) ≡ scan cur (x ∷ xs)) [
        | true ↦ (λ e. let p = found-passed cur before x xs r e in found-scan cur (x ∷ before) xs p.0 ∙ p.1)
        | false ↦ (λ e. scan-same cur x (found_after line column (x ∷ before) xs) xs (λ on f. found-scan (Some x) (x ∷ before) xs (λ _. f)) (λ off. found-scan cur (x ∷ before) xs (λ on. absurd (off on))))
      ] refl
