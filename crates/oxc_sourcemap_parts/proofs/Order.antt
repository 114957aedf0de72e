-- Sorted lists, tested from the front on.
use Rattle.std.proofs.Common.{◌≡◌, ℕ, ◌+◌, ◌-◌, ◌<◌, ◌≤◌, true, List, [], ◌∷◌, length, get_or, drop}
use Rattle.std.proofs.Common.{arith, refl, ap, ◌∙◌, length-drop}
use Rattle.std.proofs.lemmas.List.{drop_more}
use Rattle.std.specs.Prelude.{None}
use Rattle.oxc_sourcemap_tokens.specs.Token.{TokenRecord}
use Rattle.oxc_sourcemap_tokens.specs.LineOrder.{first_out_of_order}
use Rattle.oxc_sourcemap_parts.specs.Sorted.{may_precede, are_tokens_sorted, token_line}
use Rattle.oxc_sourcemap_parts.specs.Sorted.{token_column}

sorted-short : (ts : List TokenRecord) → length ts ≤ 1 → are_tokens_sorted ts ≡ true
sorted-short [] h = refl
sorted-short (t ∷ []) h = refl
sorted-short (t ∷ u ∷ ts) h = absurd (omega arith)

pub sorted-end : (ts : List TokenRecord) (i : ℕ) → length ts ≤ i → are_tokens_sorted (drop (i - 1) ts) ≡ true
sorted-end ts i h = sorted-short (drop (i - 1) ts) (omega (arith, length-drop (i - 1) ts))

pub sorted-step : (ts : List TokenRecord) (i : ℕ) (d e : TokenRecord) → 1 ≤ i → i < length ts → may_precede token_line token_column (get_or ts (i - 1) d) (get_or ts i e) ≡ true →
    are_tokens_sorted (drop (i - 1) ts) ≡ are_tokens_sorted (drop i ts)
sorted-step ts i d e h l ok =
    let n : i - 1 + 1 ≡ i = omega arith in
    let k : i - 1 < length ts = omega arith in
    let first : drop (i - 1) ts ≡ get_or ts (i - 1) d ∷ drop i ts = drop_more ts (i - 1) d k ∙ ap (λ m. get_or ts (i - 1) d ∷ drop m ts) n in
    let second : drop i ts ≡ get_or ts i e ∷ drop (i + 1) ts = drop_more ts i e l in
    rw (first, second, ok)

-- the first of a sorted list precedes the second, and the others are sorted
pub sorted-head : (x y : TokenRecord) (ys : List TokenRecord) → are_tokens_sorted (x ∷ y ∷ ys) ≡ true → (may_precede token_line token_column x y ≡ true) × (are_tokens_sorted (y ∷ ys) ≡ true)
sorted-head x y ys h = (grind (arith, h), grind (arith, h))

-- a sorted list is in line order
pub sorted_in_order : (ts : List TokenRecord) → are_tokens_sorted ts ≡ true → first_out_of_order ts ≡ None
sorted_in_order [] h = refl
sorted_in_order (t ∷ []) h = refl
sorted_in_order (t ∷ u ∷ ts) h =
    let head = sorted-head t u ts h in
    grind (arith, head.0, sorted_in_order (u ∷ ts) head.1)
