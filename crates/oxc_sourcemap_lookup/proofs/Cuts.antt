-- Lines cut at a column: where the lookups of the column, and from it on, find what they find.
use Rattle.std.proofs.Common.{◌≡◌, refl, sym, ap, ◌∙◌, ℕ, zero, suc, ◌+◌, ◌<◌, ◌≤◌, ◌≢◌, Bool, true}
use Rattle.std.proofs.Common.{false, cond, List, [], ◌∷◌, length, take, drop, slice_get, Option}
use Rattle.std.proofs.Common.{Some, None, nat_lt, nat_le, ◌==◌, arith, if◌then◌else◌}
use Rattle.std.proofs.lemmas.List.Sums.{prefix_len-le-length}
use Rattle.std.specs.List.{prefix_len, last_or, AllByRecursion}
use Rattle.std.specs.Option.{option_or}
use Rattle.oxc_sourcemap_tokens.specs.Token.{last}
use Rattle.oxc_sourcemap_lookup.specs.Lookup.{first, at, at_or_after, least, in_column, not_before}
use Rattle.oxc_sourcemap_lookup.specs.Lookup.{no_column_goes_back}
use Rattle.oxc_sourcemap_lookup.proofs.Lookups.{AreNotBefore, goes_on, at-front, at-here, at-past}
use Rattle.oxc_sourcemap_lookup.proofs.Lookups.{or_else-some, or_else-none, last_or-else}
use Rattle.oxc_sourcemap_lookup.proofs.Lookups.{none_among}
use Rattle.oxc_sourcemap_lookup.proofs.Lookups as walks

module _ {A : Type 0} (column : A → ℕ) where
  -- how many items at the front of a line are before the column
  abbrev pub cut : ℕ → List A → ℕ
  cut col xs = prefix_len (λ x. nat_lt (column x) col) xs

  -- an item if it is at the column, else the other one
  abbrev pub here_or : ℕ → Option A → Option A → Option A
  here_or col None other = other
  here_or col (Some x) other = if column x == col then Some x else other

  abbrev at_cut : ℕ → Option A → List A → ℕ → Option A
  at_cut col found xs n = here_or col (first (drop n xs)) (last_or found (take n xs))

  cut-at-by : (b e : Bool) (col : ℕ) (found : Option A) (x : A) (xs : List A) → nat_lt (column x) col ≡ b → (column x == col) ≡ e → no_column_goes_back column (x ∷ xs) ≡ true
      → ((f : Option A) → option_or (at column xs col) f ≡ at_cut col f xs (cut col xs))
      → option_or (at column (x ∷ xs) col) found ≡ at_cut col found (x ∷ xs) (cut col (x ∷ xs))
  cut-at-by true e col found x xs lt same g more =
      let n : cut col (x ∷ xs) ≡ suc (cut col xs) = rw lt (omega arith) in
      ap (λ o. option_or o found) (at-front column col x xs (grind (arith, lt)) (walks.not_before column x xs g)) ∙ or_else-some (at column xs col) x found ∙ more (Some x) ∙ sym (ap (at_cut col found (x ∷ xs)) n)
  cut-at-by false true col found x xs lt same g more =
      let n : cut col (x ∷ xs) ≡ 0 = rw lt in
      ap (λ o. option_or o found) (at-here column col x xs (grind (arith, same))) ∙ sym (ap (at_cut col found (x ∷ xs)) n ∙ rw same)
  cut-at-by false false col found x xs lt same g more =
      let n : cut col (x ∷ xs) ≡ 0 = rw lt in
      let past : col < column x = grind (arith, lt, same) in
      ap (λ o. option_or o found) (at-past column col x xs past (walks.not_before column x xs g)) ∙ sym (ap (at_cut col found (x ∷ xs)) n ∙ rw same)

  cut-at-or : (col : ℕ) (found : Option A) (xs : List A) → no_column_goes_back column xs ≡ true → option_or (at column xs col) found ≡ at_cut col found xs (cut col xs)
  cut-at-or col found [] g = ap (λ o. option_or o found) (none_among column col)
  cut-at-or col found (x ∷ xs) g = cut-at-by (nat_lt (column x) col) (column x == col) col found x xs refl refl g (λ f. cut-at-or col f xs (goes_on column x xs g))

  -- the item before an index
  abbrev pub get_before : List A → ℕ → Option A
  get_before xs zero = None
  get_before xs (suc n) = slice_get xs n

  pub first-drop : (xs : List A) (n : ℕ) → first (drop n xs) ≡ slice_get xs n
  first-drop [] zero = refl
  first-drop [] (suc n) = refl
  first-drop (x ∷ xs) zero = refl
  first-drop (x ∷ xs) (suc n) = first-drop xs n

  last-take-or : (found : Option A) (x : A) (xs : List A) (n : ℕ) → n ≤ length xs → last_or found (take (suc n) (x ∷ xs)) ≡ slice_get (x ∷ xs) n
  last-take-or found x xs zero h = refl
  last-take-or found x [] (suc n) h = absurd (omega (arith, h))
  last-take-or found x (y ∷ ys) (suc n) h = last-take-or (Some x) y ys n (omega (arith, h))

  last-take : (xs : List A) (n : ℕ) → n ≤ length xs → last (take n xs) ≡ get_before xs n
  last-take xs zero h = refl
  last-take [] (suc n) h = absurd (omega (arith, h))
  last-take (x ∷ xs) (suc n) h = last-take-or None x xs n (omega (arith, h))

  -- the lookup of a column finds the first item that is not before it, if that is at it, else the item before
  pub at-cut : (col : ℕ) (xs : List A) → no_column_goes_back column xs ≡ true → at column xs col ≡ here_or col (slice_get xs (cut col xs)) (get_before xs (cut col xs))
  at-cut col xs g =
      let n = cut col xs in
      sym (or_else-none (at column xs col)) ∙ cut-at-or col None xs g
      ∙ ap (λ o. here_or col o (last (take n xs))) (first-drop xs n)
      ∙ ap (here_or col (slice_get xs n)) (last-take xs n (prefix_len-le-length (λ x. nat_lt (column x) col) xs))

  -- ---- from a column on
  abbrev after_cut : ℕ → List A → ℕ → Option A
  after_cut col xs n = here_or col (last (take n xs)) (first (drop n xs))

  all_from : (col : ℕ) (x : A) (xs : List A) → col ≤ column x → AreNotBefore column x xs → not_before column col xs ≡ xs
  all_from col x [] h all = refl
  all_from col x (y ∷ ys) h all =
      let here : nat_le col (column y) ≡ true = grind (arith, h, all.0) in
      let more = all_from col x ys h all.1 in
      rw here (ap (λ zs. y ∷ zs) more)

  least-is : (x : A) (xs : List A) → no_column_goes_back column (x ∷ xs) ≡ true → least column (x ∷ xs) ≡ column x
  least-is x [] g = refl
  least-is x (y ∷ ys) g =
      let rest = least-is y ys (goes_on column x (y ∷ ys) g) in
      let le : column x ≤ column y = grind (arith, g) in
      grind (arith, rest, le)

  none-column : (col : ℕ) (y : A) (ys : List A) → col < column y → AreNotBefore column y ys → in_column column col ys ≡ []
  none-column col y [] h all = refl
  none-column col y (z ∷ zs) h all =
      let other : (column z == col) ≡ false = grind (arith, h, all.0) in
      rw other (none-column col y zs h all.1)

  front-column-by : (b : Bool) (col : ℕ) (y : A) (ys : List A) → (column y == col) ≡ b → col ≤ column y → no_column_goes_back column (y ∷ ys) ≡ true
      → (column y ≡ col → in_column column col ys ≡ take (cut (col + 1) ys) ys) → in_column column col (y ∷ ys) ≡ take (cut (col + 1) (y ∷ ys)) (y ∷ ys)
  front-column-by true col y ys e le g more =
      let here : column y ≡ col = grind (arith, e) in
      let lt : nat_lt (column y) (col + 1) ≡ true = grind (arith, here) in
      let n : cut (col + 1) (y ∷ ys) ≡ suc (cut (col + 1) ys) = rw lt (omega arith) in
      let near : in_column column col (y ∷ ys) ≡ y ∷ in_column column col ys = rw e refl in
      near ∙ ap (λ zs. y ∷ zs) (more here) ∙ sym (ap (λ k. take k (y ∷ ys)) n)
  front-column-by false col y ys e le g more =
      let past : col < column y = grind (arith, e, le) in
      let lt : nat_lt (column y) (col + 1) ≡ false = grind (arith, past) in
      let n : cut (col + 1) (y ∷ ys) ≡ 0 = rw lt refl in
      let near : in_column column col (y ∷ ys) ≡ in_column column col ys = rw e refl in
      near ∙ none-column col y ys past (walks.not_before column y ys g) ∙ sym (ap (λ k. take k (y ∷ ys)) n)

  -- what is at the column of the first item stands at the front
  front-column : (col : ℕ) (x : A) (xs : List A) → column x ≡ col → no_column_goes_back column (x ∷ xs) ≡ true → in_column column col xs ≡ take (cut (col + 1) xs) xs
  front-column col x [] h g = refl
  front-column col x (y ∷ ys) h g =
      let le : column x ≤ column y = grind (arith, g) in
      let more = goes_on column x (y ∷ ys) g in
      front-column-by (column y == col) col y ys refl (omega (arith, h, le)) more (λ same. front-column col y ys same more)

  -- the last item of a list whose items are all at the column is found there
  last-here : (col : ℕ) (x : A) (xs : List A) (other : Option A) → column x ≡ col → AllByRecursion (λ y. column y ≡ col) xs → here_or col (last_or (Some x) xs) other ≡ last_or (Some x) xs
  last-here col x [] other h all = (let same : (column x == col) ≡ true = grind (arith, h) in rw same)
  last-here col x (y ∷ ys) other h all = last-here col y ys other all.0 all.1

  all-in-by : (b : Bool) (col : ℕ) (y : A) (ys : List A) → (column y == col) ≡ b → AllByRecursion (λ y. column y ≡ col) ys → AllByRecursion (λ y. column y ≡ col) (cond b (y ∷ ys) ys)
  all-in-by true col y ys e all = (grind (arith, e), all)
  all-in-by false col y ys e all = all

  all-in : (col : ℕ) (xs : List A) → AllByRecursion (λ y. column y ≡ col) (in_column column col xs)
  all-in col [] = tt
  all-in col (y ∷ ys) = all-in-by (column y == col) col y (in_column column col ys) refl (all-in col ys)

  -- an item before the column changes nothing
  here_or-front : (col : ℕ) (x : A) (o other : Option A) → column x ≢ col → here_or col (option_or o (Some x)) other ≡ here_or col o other
  here_or-front col x None other h = grind (arith, h)
  here_or-front col x (Some y) other h = refl

  abbrev after_among : ℕ → List A → Option A
  after_among col items =
      let best = least column items in
      let near = in_column column best items in
      if best == col then last near else first near

  after-by : (b e : Bool) (col : ℕ) (x : A) (xs : List A) → nat_lt (column x) col ≡ b → (column x == col) ≡ e → no_column_goes_back column (x ∷ xs) ≡ true
      → at_or_after column xs col ≡ after_cut col xs (cut (col + 1) xs) → at_or_after column (x ∷ xs) col ≡ after_cut col (x ∷ xs) (cut (col + 1) (x ∷ xs))
  after-by true e col x xs b_is e_is g more =
      let skip : nat_le col (column x) ≡ false = grind (arith, b_is) in
      let dropped : not_before column col (x ∷ xs) ≡ not_before column col xs = rw skip in
      let lt : nat_lt (column x) (col + 1) ≡ true = grind (arith, b_is) in
      let m = cut (col + 1) xs in
      let n : cut (col + 1) (x ∷ xs) ≡ suc m = rw lt (omega arith) in
      let other : column x ≢ col = grind (arith, b_is) in
      ap (after_among col) dropped ∙ more
      ∙ sym (ap (after_cut col (x ∷ xs)) n ∙ ap (λ o. here_or col o (first (drop m xs))) (last_or-else x (take m xs)) ∙ here_or-front col x (last (take m xs)) (first (drop m xs)) other)
  after-by false true col x xs b_is e_is g more =
      let here : column x ≡ col = grind (arith, e_is) in
      let all = walks.not_before column x xs g in
      let keep : nat_le col (column x) ≡ true = grind (arith, here) in
      let kept : not_before column col (x ∷ xs) ≡ x ∷ xs = rw keep (ap (λ zs. x ∷ zs) (all_from col x xs (omega (arith, here)) all)) in
      let best = least-is x xs g ∙ here in
      let lt : nat_lt (column x) (col + 1) ≡ true = grind (arith, here) in
      let m = cut (col + 1) xs in
      let n : cut (col + 1) (x ∷ xs) ≡ suc m = rw lt (omega arith) in
      let front = front-column col x xs here g in
      let col_is : (col == col) ≡ true = grind (arith) in
      let near : in_column column col (x ∷ xs) ≡ x ∷ in_column column col xs = rw e_is in
      ap (after_among col) kept
      ∙ ap (λ k. if k == col then last (in_column column k (x ∷ xs)) else first (in_column column k (x ∷ xs))) best
      ∙ ap (λ b. if b then last (in_column column col (x ∷ xs)) else first (in_column column col (x ∷ xs))) col_is
      ∙ ap last near
      ∙ sym (ap (after_cut col (x ∷ xs)) n ∙ ap (λ zs. here_or col (last_or (Some x) zs) (first (drop m xs))) (sym front) ∙ last-here col x (in_column column col xs) (first (drop m xs)) here (all-in col xs))
  after-by false false col x xs b_is e_is g more =
      let past : col < column x = grind (arith, b_is, e_is) in
      let all = walks.not_before column x xs g in
      let keep : nat_le col (column x) ≡ true = grind (arith, past) in
      let kept : not_before column col (x ∷ xs) ≡ x ∷ xs = rw keep (ap (λ zs. x ∷ zs) (all_from col x xs (omega (arith, past)) all)) in
      let best = least-is x xs g in
      let lt : nat_lt (column x) (col + 1) ≡ false = grind (arith, past) in
      let n : cut (col + 1) (x ∷ xs) ≡ 0 = rw lt in
      let self_is : (column x == column x) ≡ true = grind (arith) in
      let near : in_column column (column x) (x ∷ xs) ≡ x ∷ in_column column (column x) xs = rw self_is in
      ap (after_among col) kept
      ∙ ap (λ k. if k == col then last (in_column column k (x ∷ xs)) else first (in_column column k (x ∷ xs))) best
      ∙ ap (λ b. if b then last (in_column column (column x) (x ∷ xs)) else first (in_column column (column x) (x ∷ xs))) e_is
      ∙ ap first near
      ∙ sym (ap (after_cut col (x ∷ xs)) n)

  after_cut-is : (col : ℕ) (xs : List A) → no_column_goes_back column xs ≡ true → at_or_after column xs col ≡ after_cut col xs (cut (col + 1) xs)
  after_cut-is col [] g = grind (arith)
  after_cut-is col (x ∷ xs) g = after-by (nat_lt (column x) col) (column x == col) col x xs refl refl g (after_cut-is col xs (goes_on column x xs g))

  -- the lookup from a column on finds the last item that is not past it, if that is at it, else the item after
  pub after-cut : (col : ℕ) (xs : List A) → no_column_goes_back column xs ≡ true → at_or_after column xs col ≡ here_or col (get_before xs (cut (col + 1) xs)) (slice_get xs (cut (col + 1) xs))
  after-cut col xs g =
      let n = cut (col + 1) xs in
      after_cut-is col xs g
      ∙ ap (λ o. here_or col o (first (drop n xs))) (last-take xs n (prefix_len-le-length (λ x. nat_lt (column x) (col + 1)) xs))
      ∙ ap (here_or col (get_before xs n)) (first-drop xs n)
