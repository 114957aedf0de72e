-- What is found at a column: by which columns have items.
use Rattle.std.proofs.Common.{◌≡◌, ◌≢◌, refl, ap, ◌∙◌, ℕ, ◌<◌, ◌≤◌, Bool, true, false, cond, List}
use Rattle.std.proofs.Common.{[], ◌∷◌, ◌==◌, nat_le, inl, inr, if◌then◌else◌, None, arith}
use Rattle.std.proofs.lemmas.Bool.{cases_lt}
use Rattle.std.proofs.lemmas.Bool.Decides.{nat_tests}
use Rattle.std.specs.List.{AllByRecursion}
use Rattle.oxc_sourcemap_tokens.specs.Token.{last}
use Rattle.oxc_sourcemap_lookup.specs.Lookup.{first, greatest, least, not_past, not_before}
use Rattle.oxc_sourcemap_lookup.specs.Lookup.{in_column, at, at_or_after}

empty_tail : {A : Type 0} (b : Bool) (x : A) (ys : List A) → cond b (x ∷ ys) ys ≡ [] → ys ≡ []
empty_tail true x ys h = cc (h)
empty_tail false x ys h = h

empty_head : {A : Type 0} (b : Bool) (x : A) (ys : List A) → b ≡ true → cond b (x ∷ ys) ys ≡ [] → ⊥
empty_head true x ys e h = cc (h)
empty_head false x ys e h = cc (e)

both : {A : Type 0} (b : Bool) (x : A) → (if b then x else x) ≡ x
both true x = refl
both false x = refl

same_self : (n : ℕ) → (n == n) ≡ true
same_self n = grind (arith, nat_tests)

module _ {A : Type 0} (column : A → ℕ) where
  most-by : (b : Bool) (col best : ℕ) (x : A) (np : List A) → nat_le (column x) col ≡ b → (best < column x → column x ≤ col → ⊥) → greatest column np ≤ best → greatest column (cond b (x ∷ np) np) ≤ best
  most-by true col best x np e bar more =
      elim (cases_lt best (column x)) [
        | inl l ↦ (let k : column x ≤ col = grind (arith, nat_tests, e) in absurd (bar l k))
        | inr r ↦ grind (arith, r, more)
      ]
  most-by false col best x np e bar more = more

  greatest-most : (col best : ℕ) (xs : List A) → ((c : ℕ) → best < c → c ≤ col → in_column column c xs ≡ []) → greatest column (not_past column col xs) ≤ best
  greatest-most col best [] h = omega arith
  greatest-most col best (x ∷ xs) h =
      most-by (nat_le (column x) col) col best x (not_past column col xs) refl (λ g w. empty_head (column x == column x) x (in_column column (column x) xs) (same_self (column x)) (h (column x) g w))
      (greatest-most col best xs (λ c g w. empty_tail (column x == c) x (in_column column c xs) (h c g w)))

  least-by : (b c : Bool) (col best : ℕ) (x : A) (np ys : List A) → nat_le (column x) col ≡ b → (column x == best) ≡ c → best ≤ col → cond c (x ∷ ys) ys ≢ [] → (ys ≢ [] → best ≤ greatest column np) → best ≤ greatest column (cond b (x ∷ np) np)
  least-by true true col best x np ys e f le h more = (let k : column x ≡ best = grind (arith, nat_tests, f) in grind (arith, k))
  least-by false true col best x np ys e f le h more = (let k : column x ≡ best = grind (arith, nat_tests, f) in let g : col < column x = grind (arith, nat_tests, e) in absurd (omega (arith, k, g, le)))
  least-by true false col best x np ys e f le h more = (let m = more h in grind (arith, m))
  least-by false false col best x np ys e f le h more = more h

  greatest-least : (col best : ℕ) (xs : List A) → best ≤ col → in_column column best xs ≢ [] → best ≤ greatest column (not_past column col xs)
  greatest-least col best [] le h = absurd (h refl)
  greatest-least col best (x ∷ xs) le h =
      least-by (nat_le (column x) col) (column x == best) col best x (not_past column col xs) (in_column column best xs) refl refl le h (greatest-least col best xs le)

  kept-by : (b c : Bool) (best : ℕ) (x : A) (np ys : List A) → (column x == best) ≡ c → (c ≡ true → b ≡ true) → in_column column best np ≡ ys → in_column column best (cond b (x ∷ np) np) ≡ cond c (x ∷ ys) ys
  kept-by true c best x np ys e h more = ap (λ d. cond d (x ∷ in_column column best np) (in_column column best np)) e ∙ ap (λ zs. cond c (x ∷ zs) zs) more
  kept-by false true best x np ys e h more = cc (h refl)
  kept-by false false best x np ys e h more = more

  kept_past : (col best : ℕ) (xs : List A) → best ≤ col → in_column column best (not_past column col xs) ≡ in_column column best xs
  kept_past col best [] le = refl
  kept_past col best (x ∷ xs) le =
      kept-by (nat_le (column x) col) (column x == best) best x (not_past column col xs) (in_column column best xs) refl (λ f. grind (arith, nat_tests, f, le)) (kept_past col best xs le)

  -- the greatest column that has items, not past the given one
  pub at_nearest : (col best : ℕ) (xs : List A) → best ≤ col → ((c : ℕ) → best < c → c ≤ col → in_column column c xs ≡ []) → in_column column best xs ≢ []
      → at column xs col ≡ (if best == col then first (in_column column best xs) else last (in_column column best xs))
  at_nearest col best xs le none some =
      let top : greatest column (not_past column col xs) ≡ best = omega (arith, greatest-most col best xs none, greatest-least col best xs le some) in
      ap (λ b. if b == col then first (in_column column b (not_past column col xs)) else last (in_column column b (not_past column col xs))) top
      ∙ ap (λ ys. if best == col then first ys else last ys) (kept_past col best xs le)

  none_past-by : (b : Bool) (col : ℕ) (x : A) (np : List A) → nat_le (column x) col ≡ b → (column x ≤ col → ⊥) → np ≡ [] → cond b (x ∷ np) np ≡ []
  none_past-by true col x np e bar more = (let k : column x ≤ col = grind (arith, nat_tests, e) in absurd (bar k))
  none_past-by false col x np e bar more = more

  none_past : (col : ℕ) (xs : List A) → ((c : ℕ) → c ≤ col → in_column column c xs ≡ []) → not_past column col xs ≡ []
  none_past col [] h = refl
  none_past col (x ∷ xs) h =
      none_past-by (nat_le (column x) col) col x (not_past column col xs) refl (λ g. empty_head (column x == column x) x (in_column column (column x) xs) (same_self (column x)) (h (column x) g))
      (none_past col xs (λ c g. empty_tail (column x == c) x (in_column column c xs) (h c g)))

  pub at_none : (col : ℕ) (xs : List A) → ((c : ℕ) → c ≤ col → in_column column c xs ≡ []) → at column xs col ≡ None
  at_none col xs h =
      ap (λ items. if greatest column items == col then first (in_column column (greatest column items) items) else last (in_column column (greatest column items) items)) (none_past col xs h)
      ∙ both (0 == col) None

  -- ---- the mirror image
  abbrev Lower : ℕ → List A → Type 0
  Lower best [] = Unit {0}
  Lower best (x ∷ xs) = best ≤ least column (x ∷ xs)

  abbrev Upper : ℕ → List A → Type 0
  Upper best [] = ⊥
  Upper best (x ∷ xs) = least column (x ∷ xs) ≤ best

  lower-more : (best : ℕ) (x : A) (xs : List A) → best ≤ column x → Lower best xs → Lower best (x ∷ xs)
  lower-more best x [] h more = h
  lower-more best x (y ∷ ys) h more = omega (arith, h, more)

  upper-here : (best : ℕ) (x : A) (xs : List A) → column x ≤ best → Upper best (x ∷ xs)
  upper-here best x [] h = h
  upper-here best x (y ∷ ys) h = omega (arith, h)

  upper-more : (best : ℕ) (x : A) (xs : List A) → Upper best xs → Upper best (x ∷ xs)
  upper-more best x [] more = absurd more
  upper-more best x (y ∷ ys) more = omega (arith, more)

  exactly : (best : ℕ) (xs : List A) → Lower best xs → Upper best xs → least column xs ≡ best
  exactly best [] l u = absurd u
  exactly best (x ∷ xs) l u = omega (arith, l, u)

  lower-by : (b : Bool) (col best : ℕ) (x : A) (nb : List A) → nat_le col (column x) ≡ b → (col ≤ column x → column x < best → ⊥) → Lower best nb → Lower best (cond b (x ∷ nb) nb)
  lower-by true col best x nb e bar more =
      elim (cases_lt (column x) best) [
        | inl l ↦ (let k : col ≤ column x = grind (arith, nat_tests, e) in absurd (bar k l))
        | inr r ↦ lower-more best x nb r more
      ]
  lower-by false col best x nb e bar more = more

  lower : (col best : ℕ) (xs : List A) → ((c : ℕ) → col ≤ c → c < best → in_column column c xs ≡ []) → Lower best (not_before column col xs)
  lower col best [] h = tt
  lower col best (x ∷ xs) h =
      lower-by (nat_le col (column x)) col best x (not_before column col xs) refl (λ g w. empty_head (column x == column x) x (in_column column (column x) xs) (same_self (column x)) (h (column x) g w))
      (lower col best xs (λ c g w. empty_tail (column x == c) x (in_column column c xs) (h c g w)))

  upper-by : (b c : Bool) (col best : ℕ) (x : A) (nb ys : List A) → nat_le col (column x) ≡ b → (column x == best) ≡ c → col ≤ best → cond c (x ∷ ys) ys ≢ [] → (ys ≢ [] → Upper best nb) → Upper best (cond b (x ∷ nb) nb)
  upper-by true true col best x nb ys e f le h more = (let k : column x ≡ best = grind (arith, nat_tests, f) in upper-here best x nb (omega (arith, k)))
  upper-by false true col best x nb ys e f le h more = (let k : column x ≡ best = grind (arith, nat_tests, f) in let g : column x < col = grind (arith, nat_tests, e) in absurd (omega (arith, k, g, le)))
  upper-by true false col best x nb ys e f le h more = upper-more best x nb (more h)
  upper-by false false col best x nb ys e f le h more = more h

  upper : (col best : ℕ) (xs : List A) → col ≤ best → in_column column best xs ≢ [] → Upper best (not_before column col xs)
  upper col best [] le h = absurd (h refl)
  upper col best (x ∷ xs) le h =
      upper-by (nat_le col (column x)) (column x == best) col best x (not_before column col xs) (in_column column best xs) refl refl le h (upper col best xs le)

  kept_before : (col best : ℕ) (xs : List A) → col ≤ best → in_column column best (not_before column col xs) ≡ in_column column best xs
  kept_before col best [] le = refl
  kept_before col best (x ∷ xs) le =
      kept-by (nat_le col (column x)) (column x == best) best x (not_before column col xs) (in_column column best xs) refl (λ f. grind (arith, nat_tests, f, le)) (kept_before col best xs le)

  -- the least column that has items, not before the given one
  pub from_nearest : (col best : ℕ) (xs : List A) → col ≤ best → ((c : ℕ) → col ≤ c → c < best → in_column column c xs ≡ []) → in_column column best xs ≢ []
      → at_or_after column xs col ≡ (if best == col then last (in_column column best xs) else first (in_column column best xs))
  from_nearest col best xs le none some =
      let low : least column (not_before column col xs) ≡ best = exactly best _ (lower col best xs none) (upper col best xs le some) in
      ap (λ b. if b == col then last (in_column column b (not_before column col xs)) else first (in_column column b (not_before column col xs))) low
      ∙ ap (λ ys. if best == col then last ys else first ys) (kept_before col best xs le)

  none_before-by : (b : Bool) (col : ℕ) (x : A) (nb : List A) → nat_le col (column x) ≡ b → (col ≤ column x → ⊥) → nb ≡ [] → cond b (x ∷ nb) nb ≡ []
  none_before-by true col x nb e bar more = (let k : col ≤ column x = grind (arith, nat_tests, e) in absurd (bar k))
  none_before-by false col x nb e bar more = more

  none_before : (col limit : ℕ) (xs : List A) → AllByRecursion (λ x. column x < limit) xs → ((c : ℕ) → col ≤ c → c < limit → in_column column c xs ≡ []) → not_before column col xs ≡ []
  none_before col limit [] all h = refl
  none_before col limit (x ∷ xs) all h =
      none_before-by (nat_le col (column x)) col x (not_before column col xs) refl (λ g. empty_head (column x == column x) x (in_column column (column x) xs) (same_self (column x)) (h (column x) g all.0))
      (none_before col limit xs all.1 (λ c g w. empty_tail (column x == c) x (in_column column c xs) (h c g w)))

  pub from_none : (col limit : ℕ) (xs : List A) → AllByRecursion (λ x. column x < limit) xs → ((c : ℕ) → col ≤ c → c < limit → in_column column c xs ≡ []) → at_or_after column xs col ≡ None
  from_none col limit xs all h =
      ap (λ items. if least column items == col then last (in_column column (least column items) items) else first (in_column column (least column items) items)) (none_before col limit xs all h)
      ∙ both (0 == col) None
