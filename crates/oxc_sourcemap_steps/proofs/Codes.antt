-- Items of a list, and the indices that stand for them: those of the first equal ones.
use Rattle.std.proofs.Common.{◌≡◌, refl, sym, ap, ◌∙◌, ℕ, zero, suc, ◌+◌, Bool, true, false, cond}
use Rattle.std.proofs.Common.{◌||◌, ◌==◌, List, [], ◌∷◌, ◌++◌, map, length, slice_get, Option, Some}
use Rattle.std.proofs.Common.{None, is_some, get_or, arith}
use Rattle.std.specs.Bool.{Decides}
use Rattle.std.proofs.lemmas.Bool.Decides.{Decides-eqb}
use Rattle.std.specs.List.{position_from, list_any}
use Rattle.std.specs.Option.{option_and_then}
use Rattle.oxc_sourcemap_steps.specs.SimplifySteps.{index_in, with_number, AreFirsts}

-- a position, counted from where the search began
pub record Place {A : Type 0} (x : A) (k : ℕ) (xs : List A) (i : ℕ) : Type 0 where
  pub j : ℕ
  pub is : i ≡ k + j
  pub at : slice_get xs j ≡ Some x

pub any-is : {A : Type 0} (t : A → Bool) (k : ℕ) (xs : List A) → list_any t xs ≡ is_some (position_from t k xs)
any-is t k [] = refl
any-is t k (x ∷ xs) = elim (t x) as (λ b. (b || list_any t xs) ≡ is_some (cond b (Some k) (position_from t (k + 1) xs))) [
  | true ↦ refl
  | false ↦ any-is t (k + 1) xs
]

-- tests that agree find the same
pub position-same : {A B : Type 0} (t : A → Bool) (u : B → Bool) (f : B → A) → ((y : B) → t (f y) ≡ u y) → (k : ℕ) (ys : List B) → position_from t k (map f ys) ≡ position_from u k ys
position-same t u f h k [] = refl
position-same t u f h k (y ∷ ys) = ap (λ b. cond b (Some k) (position_from t (k + 1) (map f ys))) (h y) ∙ ap (λ o. cond (u y) (Some k) o) (position-same t u f h (k + 1) ys)

module _ {A : Type 0} (same : A → A → Bool) (decides : (x y : A) → Decides (same x y) (x ≡ y)) where
  abbrev pub index : A → List A → Option ℕ
  index x xs = position_from (same x) 0 xs

  place-from : (x : A) (k : ℕ) (xs : List A) (i : ℕ) → position_from (same x) k xs ≡ Some i → Place x k xs i
  place-from x k [] i e = absurd (cc (e))
  place-from x k (y ∷ ys) i e =
      elim (same x y) as (λ b. same x y ≡ b → cond b (Some k) (position_from (same x) (k + 1) ys) ≡ Some i → Place x k (y ∷ ys) i) [
        | true ↦ (λ q p. let r : k ≡ i = cc (p) in record { j = 0; is = omega (arith, r); at = ap (λ z. Some z) (sym ((decides x y).0 q)) })
        | false ↦ (λ q p. let r = place-from x (k + 1) ys i p in record { j = suc r.j; is = omega (arith, r.is); at = r.at })
      ] refl e

  pub at-index : (x : A) (xs : List A) (i : ℕ) → index x xs ≡ Some i → slice_get xs i ≡ Some x
  at-index x xs i e = let r = place-from x 0 xs i e in let k : i ≡ r.j = omega (arith, r.is) in ap (slice_get xs) k ∙ r.at

  pub itself : (x : A) → same x x ≡ true
  itself x = (decides x x).1 refl

  some-is : {x y : A} → Some x ≡ Some y → x ≡ y
  some-is e = cc (e)

  -- the list with this item, if it has no equal one
  abbrev pub with_one : List A → A → List A
  with_one xs x = cond (list_any (same x) xs) xs (xs ++ x ∷ [])

  module _ (items : List A) where
    -- the index of the first item that is equal to this one
    abbrev pub IsCode : ℕ → A → Type 0
    IsCode k x = index x items ≡ Some k

    pub same-code : (x y : A) (k : ℕ) → IsCode k x → IsCode k y → x ≡ y
    same-code x y k e f = some-is (sym (at-index x items k e) ∙ at-index y items k f)

    pub eq-codes : (k j : ℕ) (x y : A) → IsCode k x → IsCode j y → (k == j) ≡ same x y
    eq-codes k j x y e f =
        elim (same x y) as (λ b. same x y ≡ b → (k == j) ≡ b) [
          | true ↦ (λ q. let s : x ≡ y = (decides x y).0 q in
              let o : Some k ≡ Some j = sym e ∙ ap (λ z. index z items) s ∙ f in
              (Decides-eqb k j).1 (cc (o)))
          | false ↦ (λ q. elim (k == j) as (λ b. (k == j) ≡ b → b ≡ false) [
            | true ↦ (λ p. let s : k ≡ j = (Decides-eqb k j).0 p in
                let xy : x ≡ y = same-code x y j (e ∙ ap (λ n. Some n) s) f in
                let t : same x y ≡ true = (decides x y).1 xy in cc (t, q))
            | false ↦ (λ p. refl)
          ] refl)
        ] refl

    abbrev pub AreCodes : List ℕ → List A → Type 0
    AreCodes [] [] = Unit {0}
    AreCodes [] (x ∷ xs) = ⊥
    AreCodes (k ∷ ks) [] = ⊥
    AreCodes (k ∷ ks) (x ∷ xs) = IsCode k x × AreCodes ks xs

    place-same-from : (n k : ℕ) (x : A) (ks : List ℕ) (xs : List A) → IsCode k x → AreCodes ks xs → position_from (λ j. k == j) n ks ≡ position_from (same x) n xs
    place-same-from n k x [] [] e h = refl
    place-same-from n k x [] (y ∷ ys) e h = elim h [ ]
    place-same-from n k x (j ∷ ks) [] e h = elim h [ ]
    place-same-from n k x (j ∷ ks) (y ∷ ys) e h =
        ap (λ b. cond b (Some n) (position_from (λ i. k == i) (n + 1) ks)) (eq-codes k j x y e h.0)
        ∙ ap (λ o. cond (same x y) (Some n) o) (place-same-from (n + 1) k x ks ys e h.1)

    -- an item and its code stand at the same place
    pub place-same : (k : ℕ) (x : A) (ks : List ℕ) (xs : List A) → IsCode k x → AreCodes ks xs → index_in k ks ≡ index x xs
    place-same k x ks xs e h = place-same-from 0 k x ks xs e h

    codes-last : (k : ℕ) (x : A) (ks : List ℕ) (xs : List A) → IsCode k x → AreCodes ks xs → AreCodes (ks ++ k ∷ []) (xs ++ x ∷ [])
    codes-last k x [] [] e h = (e, tt)
    codes-last k x [] (y ∷ ys) e h = elim h [ ]
    codes-last k x (j ∷ ks) [] e h = elim h [ ]
    codes-last k x (j ∷ ks) (y ∷ ys) e h = (h.0, codes-last k x ks ys e h.1)

    pub count-codes : (ks : List ℕ) (xs : List A) → AreCodes ks xs → length ks ≡ length xs
    count-codes [] [] h = refl
    count-codes [] (y ∷ ys) h = elim h [ ]
    count-codes (j ∷ ks) [] h = elim h [ ]
    count-codes (j ∷ ks) (y ∷ ys) h = ap suc (count-codes ks ys h.1)

    codes-by : (b c : Bool) (k : ℕ) (x : A) (ks : List ℕ) (xs : List A) → b ≡ c → IsCode k x → AreCodes ks xs → AreCodes (cond b ks (ks ++ k ∷ [])) (cond c xs (xs ++ x ∷ []))
    codes-by true true k x ks xs q e h = h
    codes-by true false k x ks xs q e h = absurd (cc (q))
    codes-by false true k x ks xs q e h = absurd (cc (q))
    codes-by false false k x ks xs q e h = codes-last k x ks xs e h

    pub codes-with : (k : ℕ) (x : A) (ks : List ℕ) (xs : List A) → IsCode k x → AreCodes ks xs → AreCodes (with_number ks k) (with_one xs x)
    codes-with k x ks xs e h = codes-by (is_some (index_in k ks)) (list_any (same x) xs) k x ks xs (ap is_some (place-same k x ks xs e h) ∙ sym (any-is (same x) 0 xs)) e h

    -- codes and items that may be there
    abbrev pub IsAnyCode : Option ℕ → Option A → Type 0
    IsAnyCode None None = Unit {0}
    IsAnyCode None (Some x) = ⊥
    IsAnyCode (Some k) None = ⊥
    IsAnyCode (Some k) (Some x) = IsCode k x

    -- what stands at an index of the list of codes
    firsts-from : (ks : List ℕ) (xs : List A) → map (λ k. Some k) ks ≡ map (λ x. index x items) xs → (i : ℕ) → IsAnyCode (slice_get ks i) (slice_get xs i)
    firsts-from [] [] e i = tt
    firsts-from [] (x ∷ xs) e i = absurd (cc (e))
    firsts-from (k ∷ ks) [] e i = absurd (cc (e))
    firsts-from (k ∷ ks) (x ∷ xs) e zero = let h : Some k ≡ index x items = cc (e) in sym h
    firsts-from (k ∷ ks) (x ∷ xs) e (suc i) = let h : map (λ k. Some k) ks ≡ map (λ x. index x items) xs = cc (e) in firsts-from ks xs h i

    pub any-code-at : (ks : List ℕ) → AreFirsts same items ks → (id : Option ℕ) → IsAnyCode (option_and_then (slice_get ks) id) (option_and_then (slice_get items) id)
    any-code-at ks e None = tt
    any-code-at ks e (Some i) = firsts-from ks items e i

    -- what a code leads to
    pub items-back : {B : Type 0} (g : A → B) (all : List B) (d : B) → ((k : ℕ) (x : A) → slice_get items k ≡ Some x → get_or all k d ≡ g x) → (ks : List ℕ) (xs : List A) → AreCodes ks xs → map (λ k. get_or all k d) ks ≡ map g xs
    items-back g all d f [] [] h = refl
    items-back g all d f [] (y ∷ ys) h = elim h [ ]
    items-back g all d f (j ∷ ks) [] h = elim h [ ]
    items-back g all d f (j ∷ ks) (y ∷ ys) h =
        ap (λ z. z ∷ map (λ k. get_or all k d) ks) (f j y (at-index y items j h.0)) ∙ ap (λ zs. g y ∷ zs) (items-back g all d f ks ys h.1)
