-- Indices of texts in lists.
use Rattle.std.proofs.Common.{◌≡◌, refl, ap, ◌∙◌, sym, ℕ, suc, ◌+◌, ◌-◌, ◌≤◌, Bool, true, false}
use Rattle.std.proofs.Common.{cond, List, [], ◌∷◌, ◌++◌, length, get_or, Option, Some, None, arith}
use Rattle.std.proofs.lemmas.Slice.Eq.{bytes_eq-Decides}
use Rattle.std.specs.List.{position_from}
use Rattle.std.specs.Option.{option_or, unwrap_or}
use Rattle.std.specs.Str.{bytes_eq}
use Rattle.oxc_sourcemap_parts.specs.Record.{Text}
use Rattle.oxc_sourcemap_parts.specs.Texts.{index_of, with_text_at, with_text, with_texts}

position-append : {A : Type 0} (t : A → Bool) (i : ℕ) (xs ys : List A) → position_from t i (xs ++ ys) ≡ option_or (position_from t i xs) (position_from t (i + length xs) ys)
position-append t i [] ys = ap (λ n. position_from t n ys) (omega arith)
position-append t i (x ∷ xs) ys =
    elim (t x) as (λ b. cond b (Some i) (position_from t (i + 1) (xs ++ ys)) ≡ option_or (cond b (Some i) (position_from t (i + 1) xs)) (position_from t (i + suc (length xs)) ys)) [
      | true ↦ refl
      | false ↦ position-append t (i + 1) xs ys ∙ ap (λ n. option_or (position_from t (i + 1) xs) (position_from t n ys)) (omega arith)
    ]

itself : (x : Text) → bytes_eq x x ≡ true
itself x = (bytes_eq-Decides x x).1 refl

-- one more text at the end: it has the last index, and the others keep theirs
pub index-push : (x : Text) (xs : List Text) (y : Text) → index_of x (xs ++ y ∷ []) ≡ option_or (index_of x xs) (cond (bytes_eq x y) (Some (length xs)) None)
index-push x xs y = position-append (bytes_eq x) 0 xs (y ∷ []) ∙ ap (λ n. option_or (index_of x xs) (cond (bytes_eq x y) (Some n) None)) (omega arith)

-- the index of a text in the list with it: the old one, or the last
index-at : (o : Option ℕ) (x : Text) (xs : List Text) → index_of x xs ≡ o → index_of x (with_text_at o xs x) ≡ Some (unwrap_or o (length xs))
index-at (Some i) x xs e = e
index-at None x xs e = index-push x xs x ∙ ap (λ o. option_or o (cond (bytes_eq x x) (Some (length xs)) None)) e ∙ ap (λ b. cond b (Some (length xs)) None) (itself x)

pub index-last : (x : Text) (xs : List Text) → index_of x xs ≡ None → index_of x (xs ++ x ∷ []) ≡ Some (length xs)
index-last x xs e = index-at None x xs e

pub index-with : (x : Text) (xs : List Text) → index_of x (with_text xs x) ≡ Some (unwrap_or (index_of x xs) (length xs))
index-with x xs = index-at (index_of x xs) x xs refl

-- a text of a list keeps its index when others are appended
pub index-front : (x : Text) (i : ℕ) (xs ys : List Text) → index_of x xs ≡ Some i → index_of x (xs ++ ys) ≡ Some i
index-front x i xs ys e = position-append (bytes_eq x) 0 xs ys ∙ ap (λ o. option_or o (position_from (bytes_eq x) (0 + length xs) ys)) e

index-stays-at : (o : Option ℕ) (x : Text) (i : ℕ) (xs : List Text) (y : Text) → index_of x xs ≡ Some i → index_of x (with_text_at o xs y) ≡ Some i
index-stays-at (Some j) x i xs y e = e
index-stays-at None x i xs y e = index-front x i xs (y ∷ []) e

pub index-stays_with : (x : Text) (i : ℕ) (xs : List Text) (y : Text) → index_of x xs ≡ Some i → index_of x (with_text xs y) ≡ Some i
index-stays_with x i xs y e = index-stays-at (index_of y xs) x i xs y e

pub index-stays : (x : Text) (i : ℕ) (xs ys : List Text) → index_of x xs ≡ Some i → index_of x (with_texts xs ys) ≡ Some i
index-stays x i xs [] e = e
index-stays x i xs (y ∷ ys) e = index-stays x i (with_text xs y) ys (index-stays_with x i xs y e)

-- a text is equal to the one at its index
abbrev IsAt : Text → ℕ → ℕ → List Text → Type 0
IsAt x k i xs = (k ≤ i) × (bytes_eq x (get_or xs (i - k) []) ≡ true)

at_place-by : (b : Bool) (x : Text) (k i : ℕ) (y : Text) (ys : List Text) → bytes_eq x y ≡ b → cond b (Some k) (position_from (bytes_eq x) (k + 1) ys) ≡ Some i
    → (position_from (bytes_eq x) (k + 1) ys ≡ Some i → IsAt x (k + 1) i ys) → IsAt x k i (y ∷ ys)
at_place-by true x k i y ys e f more =
    let same : k ≡ i = cc (f) in
    let here : i - k ≡ 0 = omega arith in
    (omega arith, rw here e)
at_place-by false x k i y ys e f more =
    let m = more f in
    let next : i - k ≡ suc (i - (k + 1)) = omega (arith, m.0) in
    (omega (arith, m.0), rw next m.1)

at_place : (x : Text) (k i : ℕ) (xs : List Text) → position_from (bytes_eq x) k xs ≡ Some i → IsAt x k i xs
at_place x k i [] e = absurd (cc (e))
at_place x k i (y ∷ ys) e = at_place-by (bytes_eq x y) x k i y ys refl e (at_place x (k + 1) i ys)

-- texts of one index are equal
pub same_place : (x y : Text) (i : ℕ) (xs : List Text) → index_of x xs ≡ Some i → index_of y xs ≡ Some i → x ≡ y
same_place x y i xs e f =
    let t = get_or xs (i - 0) [] in
    (bytes_eq-Decides x t).0 (at_place x 0 i xs e).1 ∙ sym ((bytes_eq-Decides y t).0 (at_place y 0 i xs f).1)
