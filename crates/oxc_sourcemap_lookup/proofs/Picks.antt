-- Lookups in lists of items that are made of other items.
use Rattle.std.proofs.Common.{◌≡◌, ℕ, Bool, true, false, ◌==◌, nat_le, cond, List, [], ◌∷◌, map}
use Rattle.std.proofs.Common.{max, min, refl, ap, ◌∙◌, Option, Some, None}
use Rattle.std.specs.List.{filter, last_or}
use Rattle.std.specs.Option.{option_map, option_or}
use Rattle.oxc_sourcemap_lookup.specs.Lookup.{first, greatest, not_past, in_column, at, clamped_at}
use Rattle.oxc_sourcemap_lookup.specs.Lookup.{on_line, pick, clamped_pick, pick_after, least}
use Rattle.oxc_sourcemap_lookup.specs.Lookup.{not_before, at_or_after}
use Rattle.oxc_sourcemap_tokens.specs.Token.{last}

module _ {A B : Type 0} (f : A → B) where
  filter-map : (p : B → Bool) (xs : List A) → filter p (map f xs) ≡ map f (filter (λ x. p (f x)) xs)
  filter-map p [] = refl
  filter-map p (x ∷ xs) =
      elim (p (f x)) as (λ b. cond b (f x ∷ filter p (map f xs)) (filter p (map f xs)) ≡ map f (cond b (x ∷ filter (λ x. p (f x)) xs) (filter (λ x. p (f x)) xs))) [
        | true ↦ ap (λ ys. f x ∷ ys) (filter-map p xs)
        | false ↦ filter-map p xs
      ]

  greatest-map : (c : B → ℕ) (xs : List A) → greatest c (map f xs) ≡ greatest (λ x. c (f x)) xs
  greatest-map c [] = refl
  greatest-map c (x ∷ xs) = ap (max (c (f x))) (greatest-map c xs)

  first-map : (xs : List A) → first (map f xs) ≡ option_map f (first xs)
  first-map [] = refl
  first-map (x ∷ xs) = refl

  last_or-map : (o : Option A) (xs : List A) → last_or (option_map f o) (map f xs) ≡ option_map f (last_or o xs)
  last_or-map o [] = refl
  last_or-map o (x ∷ xs) = last_or-map (Some x) xs

  last-map : (xs : List A) → last (map f xs) ≡ option_map f (last xs)
  last-map xs = last_or-map None xs

  cond-map : (b : Bool) (o p : Option A) → cond b (option_map f o) (option_map f p) ≡ option_map f (cond b o p)
  cond-map true o p = refl
  cond-map false o p = refl

  or_else-map : (o p : Option A) → option_or (option_map f o) (option_map f p) ≡ option_map f (option_or o p)
  or_else-map None p = refl
  or_else-map (Some x) p = refl

  pub at-map : (c : B → ℕ) (xs : List A) (col : ℕ) → at c (map f xs) col ≡ option_map f (at (λ x. c (f x)) xs col)
  at-map c xs col =
      let rs = not_past (λ x. c (f x)) col xs in
      let best = greatest (λ x. c (f x)) rs in
      let er : not_past c col (map f xs) ≡ map f rs = filter-map (λ y. nat_le (c y) col) xs in
      ap (λ ys. cond (greatest c ys == col) (first (in_column c (greatest c ys) ys)) (last (in_column c (greatest c ys) ys))) er
      ∙ ap (λ g. cond (g == col) (first (in_column c g (map f rs))) (last (in_column c g (map f rs)))) (greatest-map c rs)
      ∙ ap (λ ys. cond (best == col) (first ys) (last ys)) (filter-map (λ y. c y == best) rs)
      ∙ ap (λ o. cond (best == col) o (last (map f (in_column (λ x. c (f x)) best rs)))) (first-map (in_column (λ x. c (f x)) best rs))
      ∙ ap (λ o. cond (best == col) (option_map f (first (in_column (λ x. c (f x)) best rs))) o) (last-map (in_column (λ x. c (f x)) best rs))
      ∙ cond-map (best == col) (first (in_column (λ x. c (f x)) best rs)) (last (in_column (λ x. c (f x)) best rs))

  -- picking in the items that f makes is picking, and then f
  pub pick-map : (l c : B → ℕ) (xs : List A) (n col : ℕ) → pick l c (map f xs) n col ≡ option_map f (pick (λ x. l (f x)) (λ x. c (f x)) xs n col)
  pick-map l c xs n col =
      ap (λ zs. at c zs col) (filter-map (λ y. l y == n) xs) ∙ at-map c (on_line (λ x. l (f x)) n xs) col

  pub clamped_at-map : (c : B → ℕ) (ys : List A) (col : ℕ) → clamped_at c (map f ys) col ≡ option_map f (clamped_at (λ x. c (f x)) ys col)
  clamped_at-map c ys col =
      ap (λ o. option_or o (first (map f ys))) (at-map c ys col)
      ∙ ap (option_or (option_map f (at (λ x. c (f x)) ys col))) (first-map ys)
      ∙ or_else-map (at (λ x. c (f x)) ys col) (first ys)

  pub clamped_pick-map : (l c : B → ℕ) (xs : List A) (n col : ℕ) → clamped_pick l c (map f xs) n col ≡ option_map f (clamped_pick (λ x. l (f x)) (λ x. c (f x)) xs n col)
  clamped_pick-map l c xs n col =
      ap (λ zs. clamped_at c zs col) (filter-map (λ y. l y == n) xs) ∙ clamped_at-map c (on_line (λ x. l (f x)) n xs) col

  least-map : (c : B → ℕ) (xs : List A) → least c (map f xs) ≡ least (λ x. c (f x)) xs
  least-map c [] = refl
  least-map c (x ∷ []) = refl
  least-map c (x ∷ y ∷ ys) = ap (min (c (f x))) (least-map c (y ∷ ys))

  pub at_or_after-map : (c : B → ℕ) (xs : List A) (col : ℕ) → at_or_after c (map f xs) col ≡ option_map f (at_or_after (λ x. c (f x)) xs col)
  at_or_after-map c xs col =
      let rs = not_before (λ x. c (f x)) col xs in
      let best = least (λ x. c (f x)) rs in
      let near = in_column (λ x. c (f x)) best rs in
      ap (λ ys. cond (least c ys == col) (last (in_column c (least c ys) ys)) (first (in_column c (least c ys) ys))) (filter-map (λ y. nat_le col (c y)) xs)
      ∙ ap (λ g. cond (g == col) (last (in_column c g (map f rs))) (first (in_column c g (map f rs)))) (least-map c rs)
      ∙ ap (λ ys. cond (best == col) (last ys) (first ys)) (filter-map (λ y. c y == best) rs)
      ∙ ap (λ o. cond (best == col) o (first (map f near))) (last-map near)
      ∙ ap (λ o. cond (best == col) (option_map f (last near)) o) (first-map near)
      ∙ cond-map (best == col) (last near) (first near)

  pub pick_after-map : (l c : B → ℕ) (xs : List A) (n col : ℕ) → pick_after l c (map f xs) n col ≡ option_map f (pick_after (λ x. l (f x)) (λ x. c (f x)) xs n col)
  pick_after-map l c xs n col =
      ap (λ zs. at_or_after c zs col) (filter-map (λ y. l y == n) xs) ∙ at_or_after-map c (on_line (λ x. l (f x)) n xs) col
