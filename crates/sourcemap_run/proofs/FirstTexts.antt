-- The first place of a text in another one.
use Rattle.std.proofs.Common.{◌≡◌, ℕ, ◌<◌, ◌≤◌, List, ◌++◌, drop, length, Some, refl, ap, ◌∙◌}
use Rattle.std.proofs.Common.{arith}
use Rattle.std.proofs.Common.{◌⊎◌, inl, inr}
use Rattle.std.proofs.lemmas.Bool.{cases_order}
use Rattle.std.proofs.lemmas.List.{drop_at}
use Rattle.std.specs.Str.Pattern.{FindsText}

not_before : (p bs xs ys : List ℕ) (i j : ℕ) → FindsText p bs (Some (i, j)) → bs ≡ xs ++ (p ++ ys) → length xs < i → ⊥
not_before p bs xs ys i j found e lt = found.0 (length xs) lt ys (ap (drop (length xs)) e ∙ drop_at xs (p ++ ys) (length xs) refl)

by_order : (f x i : ℕ) → f ≡ i → (x < i → ⊥) → (i ≡ x) ⊎ ((i < x) ⊎ (x < i)) → f ≤ x
by_order f x i e never (inl h) = omega arith
by_order f x i e never (inr (inl h)) = omega arith
by_order f x i e never (inr (inr h)) = absurd (never h)

-- what `split_once` finds is the first one
pub first_text : (p bs front xs ys : List ℕ) (i j : ℕ) → FindsText p bs (Some (i, j)) → length front ≡ i → bs ≡ xs ++ (p ++ ys) → length front ≤ length xs
first_text p bs front xs ys i j found len e = by_order (length front) (length xs) i len (not_before p bs xs ys i j found e) (cases_order i (length xs))
