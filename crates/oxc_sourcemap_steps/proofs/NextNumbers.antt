-- Numbers given to indices, one after the other.
use Rattle.std.proofs.Common.{◌≡◌, refl, sym, ap, ◌∙◌, ℕ, zero, suc, ◌+◌, ◌<◌, ◌≤◌, Bool, true}
use Rattle.std.proofs.Common.{false, cond, ◌&&◌, ◌==◌, List, [], ◌∷◌, ◌++◌, length, set, slice_get}
use Rattle.std.proofs.Common.{get_or, Option, Some, None, is_some, IfSome, arith}
use Rattle.std.proofs.lemmas.Bool.Decides.{nat_tests}
use Rattle.std.specs.Bool.{beq}
use Rattle.std.specs.List.{position_from, AllByRecursion}
use Rattle.std.specs.Option.{option_or}
use Rattle.oxc_sourcemap_steps.specs.SimplifySteps.{index_in, with_any, AreApart, first_marked}

pub position-append : {A : Type 0} (t : A → Bool) (k : ℕ) (xs ys : List A) → position_from t k (xs ++ ys) ≡ option_or (position_from t k xs) (position_from t (k + length xs) ys)
position-append t k [] ys = ap (λ n. position_from t n ys) (omega arith)
position-append t k (x ∷ xs) ys =
    elim (t x) as (λ b. cond b (Some k) (position_from t (k + 1) (xs ++ ys)) ≡ option_or (cond b (Some k) (position_from t (k + 1) xs)) (position_from t (k + suc (length xs)) ys)) [
      | true ↦ refl
      | false ↦ position-append t (k + 1) xs ys ∙ ap (λ n. option_or (position_from t (k + 1) xs) (position_from t n ys)) (omega arith)
    ]

pub position-push : {A : Type 0} (t : A → Bool) (xs : List A) (y : A) (n : ℕ) → n ≡ length xs → position_from t 0 (xs ++ y ∷ []) ≡ option_or (position_from t 0 xs) (cond (t y) (Some n) None)
position-push t xs y n e = position-append t 0 xs (y ∷ []) ∙ ap (λ m. option_or (position_from t 0 xs) (cond (t y) (Some m) None)) (omega (arith, e))

below-from : {A : Type 0} (t : A → Bool) (k : ℕ) (xs : List A) (i : ℕ) → position_from t k xs ≡ Some i → i < k + length xs
below-from t k [] i e = absurd (cc (e))
below-from t k (x ∷ xs) i e =
    elim (t x) as (λ b. cond b (Some k) (position_from t (k + 1) xs) ≡ Some i → i < k + suc (length xs)) [
      | true ↦ (λ p. let q : k ≡ i = cc (p) in omega (arith, q))
      | false ↦ (λ p. let q = below-from t (k + 1) xs i p in omega (arith, q))
    ] e

pub position-below : {A : Type 0} (t : A → Bool) (xs : List A) (i : ℕ) → position_from t 0 xs ≡ Some i → i < length xs
position-below t xs i e = let q = below-from t 0 xs i e in omega (arith, q)

next-test : (j k : ℕ) → (j == k) ≡ (suc j == suc k)
next-test j k = elim (j == k) as (λ b. (j == k) ≡ b → b ≡ (suc j == suc k)) [
  | true ↦ (λ e. grind (arith, nat_tests, e))
  | false ↦ (λ e. grind (arith, nat_tests, e))
] refl

-- an item that is written
pub get-set : {A : Type 0} (xs : List A) (k : ℕ) (y : A) (j : ℕ) → k < length xs → slice_get (set xs k y) j ≡ cond (j == k) (Some y) (slice_get xs j)
get-set [] k y j h = absurd (omega (arith, h))
get-set (x ∷ xs) zero y zero h = refl
get-set {A = A} (x ∷ xs) zero y (suc j) h = let e : (suc j == 0) ≡ false = grind (arith, nat_tests) in sym (ap (λ b. cond {A = Option A} b (Some y) (slice_get xs j)) e)
get-set {A = A} (x ∷ xs) (suc k) y zero h = let e : (0 == suc k) ≡ false = grind (arith, nat_tests) in sym (ap (λ b. cond {A = Option A} b (Some y) (Some x)) e)
get-set {A = A} (x ∷ xs) (suc k) y (suc j) h = get-set xs k y j (omega (arith, h)) ∙ ap (λ b. cond {A = Option A} b (Some y) (slice_get xs j)) (next-test j k)

pub count-set : {A : Type 0} (xs : List A) (k : ℕ) (y : A) → length (set xs k y) ≡ length xs
count-set [] zero y = refl
count-set [] (suc k) y = refl
count-set (x ∷ xs) zero y = refl
count-set (x ∷ xs) (suc k) y = ap suc (count-set xs k y)

or-none : (o : Option ℕ) → o ≡ option_or o None
or-none None = refl
or-none (Some x) = refl

-- the number that comes next
place-by : (b : Bool) (j k n : ℕ) (ks : List ℕ) (o : Option (Option ℕ)) → (j == k) ≡ b → index_in k ks ≡ None → (b ≡ false → o ≡ Some (index_in j ks))
    → cond b (Some (Some n)) o ≡ Some (option_or (index_in j ks) (cond b (Some n) None))
place-by true j k n ks o e none h =
    let same : j ≡ k = grind (arith, nat_tests, e) in
    let gone : index_in j ks ≡ None = ap (λ i. index_in i ks) same ∙ none in
    ap (λ p. Some (option_or p (Some n))) (sym gone)
place-by false j k n ks o e none h = h refl ∙ ap (λ p. Some p) (or-none (index_in j ks))

pub numbers-more : (ns : List (Option ℕ)) (ks : List ℕ) (k n : ℕ) → ((j : ℕ) → j < length ns → slice_get ns j ≡ Some (index_in j ks)) → index_in k ks ≡ None → n ≡ length ks → k < length ns
    → (j : ℕ) → j < length (set ns k (Some n)) → slice_get (set ns k (Some n)) j ≡ Some (index_in j (ks ++ k ∷ []))
numbers-more ns ks k n h none e w j l =
    let count = count-set ns k (Some n) in
    get-set ns k (Some n) j w ∙ place-by (j == k) j k n ks (slice_get ns j) refl none (λ _. h j (omega (arith, l, count)))
    ∙ ap (λ p. Some p) (sym (position-push (λ i. j == i) ks k n e))

-- a number that has no place is none of them
away : (n k : ℕ) (ks : List ℕ) → position_from (λ j. k == j) n ks ≡ None → AllByRecursion (λ j. (j == k) ≡ false) ks
away n k [] e = tt
away n k (j ∷ ks) e =
    elim (k == j) as (λ b. (k == j) ≡ b → cond b (Some n) (position_from (λ i. k == i) (n + 1) ks) ≡ None → AllByRecursion (λ i. (i == k) ≡ false) (j ∷ ks)) [
      | true ↦ (λ q p. absurd (cc (p)))
      | false ↦ (λ q p. (grind (arith, nat_tests, q), away (n + 1) k ks p))
    ] refl e

all-last : (P : ℕ → Type 0) (ks : List ℕ) (k : ℕ) → AllByRecursion P ks → P k → AllByRecursion P (ks ++ k ∷ [])
all-last P [] k h p = (p, tt)
all-last P (j ∷ ks) k h p = (h.0, all-last P ks k h.1 p)

apart-by : (ks : List ℕ) (k : ℕ) → AllByRecursion (λ j. (j == k) ≡ false) ks → AreApart ks → AreApart (ks ++ k ∷ [])
apart-by [] k a h = (tt, tt)
apart-by (j ∷ ks) k a h = (all-last (λ i. (j == i) ≡ false) ks k h.0 a.0, apart-by ks k a.1 h.1)

pub apart-more : (ks : List ℕ) (k : ℕ) → index_in k ks ≡ None → AreApart ks → AreApart (ks ++ k ∷ [])
apart-more ks k none h = apart-by ks k (away 0 k ks none) h

pub within-more : (n : ℕ) (ks : List ℕ) (k : ℕ) → AllByRecursion (λ j. j < n) ks → k < n → AllByRecursion (λ j. j < n) (ks ++ k ∷ [])
within-more n ks k h p = all-last (λ j. j < n) ks k h p

-- lists do not become shorter
one-more : (b : Bool) (ks : List ℕ) (k : ℕ) → length ks ≤ length (cond b ks (ks ++ k ∷ []))
one-more true ks k = omega arith
one-more false [] k = omega arith
one-more false (j ∷ ks) k = let q = one-more false ks k in omega (arith, q)

pub any-more : (ks : List ℕ) (o : Option ℕ) → length ks ≤ length (with_any ks o)
any-more ks None = omega arith
any-more ks (Some k) = one-more (is_some (index_in k ks)) ks k

is-none : (o : Option ℕ) → is_some o ≡ false → o ≡ None
is-none None e = refl
is-none (Some x) e = absurd (cc (e))

small-by : (x : Option ℕ) (ks : List ℕ) (k : ℕ) → x ≡ index_in k ks → length ks ≤ 4294967295 → IfSome x (λ id. id < 4294967295)
small-by None ks k e few = tt
small-by (Some i) ks k e few = let b = position-below (λ j. k == j) ks i (sym e) in omega (arith, b, few)

-- ---- what stands at an index
pub get-of : {A : Type 0} (xs : List A) (k : ℕ) (d x : A) → slice_get xs k ≡ Some x → get_or xs k d ≡ x
get-of [] k d x e = absurd (cc (e))
get-of (y ∷ ys) zero d x e = cc (e)
get-of (y ∷ ys) (suc k) d x e = get-of ys k d x e

-- what stands at an index, whatever stands for none
pub get-same : {A : Type 0} (xs : List A) (k : ℕ) (d e : A) → k < length xs → get_or xs k d ≡ get_or xs k e
get-same [] k d e h = absurd (omega (arith, h))
get-same (y ∷ ys) zero d e h = refl
get-same (y ∷ ys) (suc k) d e h = get-same ys k d e (omega (arith, h))

pub none-at : (ns : List (Option ℕ)) (k : ℕ) (o x : Option ℕ) → slice_get ns k ≡ Some o → x ≡ get_or ns k x → is_some x ≡ false → o ≡ None
none-at ns k o x e f g = let same : x ≡ o = f ∙ get-of ns k x o e in is-none o (sym (ap is_some same) ∙ g)

pub place-small : (ns : List (Option ℕ)) (k : ℕ) (ks : List ℕ) (x : Option ℕ) → slice_get ns k ≡ Some (index_in k ks) → x ≡ get_or ns k x → length ks ≤ 4294967295 → IfSome x (λ id. id < 4294967295)
place-small ns k ks x e f few = small-by x ks k (f ∙ get-of ns k x (index_in k ks) e) few

-- ---- the first ones with a mark
mark-by : (b f : Bool) (c k i : ℕ) (mark : Bool) (before : List (ℕ × Bool)) (places : List (Option ℕ)) → (c == k) ≡ b → (b ≡ true → slice_get places k ≡ Some (first_marked before k mark)) → (b ≡ false → slice_get places c ≡ Some (first_marked before c mark))
    → cond b (Some (option_or (get_or places k None) (cond (beq mark f) (Some i) None))) (slice_get places c) ≡ Some (option_or (first_marked before c mark) (cond (b && beq mark f) (Some i) None))
mark-by true f c k i mark before places e at other =
    let same : c ≡ k = grind (arith, nat_tests, e) in
    ap (λ o. Some (option_or o (cond (beq mark f) (Some i) None))) (get-of places k None (first_marked before k mark) (at refl))
    ∙ ap (λ j. Some (option_or (first_marked before j mark) (cond (beq mark f) (Some i) None))) (sym same)
mark-by false f c k i mark before places e at other = other refl ∙ ap (λ o. Some o) (or-none (first_marked before c mark))

pub marked-more : (before after : List (ℕ × Bool)) (mark f : Bool) (i k n : ℕ) (places : List (Option ℕ)) → after ≡ before ++ (k, f) ∷ [] → i ≡ length before → k < n → length places ≡ n
    → ((c : ℕ) → c < n → slice_get places c ≡ Some (first_marked before c mark))
    → (c : ℕ) → c < n → slice_get (set places k (option_or (get_or places k None) (cond (beq mark f) (Some i) None))) c ≡ Some (first_marked after c mark)
marked-more before after mark f i k n places more count w len h c l =
    get-set places k _ c (omega (arith, w, len))
    ∙ mark-by (c == k) f c k i mark before places refl (λ _. h k w) (λ _. h c l)
    ∙ ap (λ o. Some o) (sym (position-push (λ p. c == p.0 && beq mark p.1) before (k, f) i count))
    ∙ ap (λ ps. Some (first_marked ps c mark)) (sym more)
