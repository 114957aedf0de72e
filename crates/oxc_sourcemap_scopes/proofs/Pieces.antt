-- The items of a text, and how long they are together.
use Rattle.std.proofs.Common.{◌≡◌, ℕ, ◌+◌, ◌==◌, ◌<◌, ◌≤◌, Bool, true, false, List, [], ◌∷◌, length}
use Rattle.std.proofs.Common.{drop, get_or}
use Rattle.std.proofs.Common.{Ok, refl, arith, add-one, drop-cons}
use Rattle.std.specs.Borrow.{Bor}
use Rattle.oxc_sourcemap_tokens.specs.Results.{lent_items}
use Rattle.std.specs.List.{slice_split, onto_first}
use Rattle.std.proofs.lemmas.List.Splits.{slice_split-cons_yes, slice_split-cons_no}
use Rattle.oxc_sourcemap_scopes.specs.Numbers.{numbers_of}
use Rattle.oxc_sourcemap_scopes.specs.Items.{State, item_read}
use Rattle.oxc_sourcemap_scopes.specs.Reading.{items_of, is_comma, items_read}

pub items-filled : (text : List ℕ) → (length text == 0) ≡ false → items_of text ≡ slice_split is_comma text
items-filled [] h = absurd (let q : true ≡ false = h in cc)
items-filled (b ∷ bs) h = refl

-- how many bytes items have, each with the comma after it
abbrev pub total : List (List ℕ) → ℕ
total [] = 0
total (item ∷ more) = length item + 1 + total more

onto-total : (x : ℕ) (items : List (List ℕ)) → 1 ≤ total items → total (onto_first x items) ≡ total items + 1
onto-total x [] h = absurd (omega (arith, h))
onto-total x (item ∷ more) h = omega arith

split-total : (test : ℕ → Bool) (xs : List ℕ) → total (slice_split test xs) ≡ length xs + 1
split-total test [] = refl
split-total test (x ∷ xs) = elim (test x) as (λ b. test x ≡ b → total (slice_split test (x ∷ xs)) ≡ length (x ∷ xs) + 1) [
  | true ↦ (λ e. rw (slice_split-cons_yes test x xs e) (omega (arith, split-total test xs)))
  | false ↦ (λ e. rw (slice_split-cons_no test x xs e) (omega (arith, split-total test xs, onto-total x (slice_split test xs) (omega (arith, split-total test xs)))))
] refl

pub items-total : (text : List ℕ) → total (items_of text) ≤ length text + 1
items-total [] = omega arith
items-total (b ∷ bs) = omega (arith, split-total is_comma (b ∷ bs))

-- the item at an index of a list of borrows, and those after it
pub lent-drop : (xs : List (Bor (List ℕ))) (i : ℕ) (d : Bor (List ℕ)) → i < length xs → lent_items (drop i xs) ≡ (get_or xs i d).now ∷ lent_items (drop (i + 1) xs)
lent-drop xs i d h = rw (add-one, drop-cons xs i d) refl

-- what is read of one item, and then of the others
pub read-one : (names at : ℕ) (s next : State) (item : List ℕ) (more : List (List ℕ)) (ns : List ℕ) → numbers_of at item ≡ Ok ns → item_read names at s ns ≡ Ok next
    → items_read names at s (item ∷ more) ≡ items_read names (at + length item + 1) next more
read-one names at s next item more ns n r = rw (n, r) refl
