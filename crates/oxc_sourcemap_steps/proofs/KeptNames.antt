-- What is kept of inherited names.
use Rattle.std.proofs.Common.{◌≡◌, ◌≢◌, refl, ap, ◌∙◌, sym, ℕ, zero, suc, ◌+◌, ◌-◌, ◌<◌, ◌≤◌, ◌==◌}
use Rattle.std.proofs.Common.{nat_lt, Bool, true, false, cond, List, [], ◌∷◌, ◌++◌, map, length}
use Rattle.std.proofs.Common.{take, get_or, set, replicate, slice_get, Option, Some, None, Bor}
use Rattle.std.proofs.Common.{arith, append_assoc}
use Rattle.std.proofs.lemmas.List.{map-append, length-map, length-append, length-take-le, take_more}
use Rattle.std.proofs.lemmas.Slice.Eq.{bytes_eq-Decides}
use Rattle.std.specs.Map.{lookup}
use Rattle.std.specs.Option.{option_or, unwrap_or}
use Rattle.std.specs.Str.{bytes_eq}
use Rattle.oxc_sourcemap_parts.specs.Record.{Text}
use Rattle.oxc_sourcemap_parts.specs.Texts.{index_of, with_text}
use Rattle.oxc_sourcemap_parts.proofs.Places.{index-push, index-with, index-stays_with}
use Rattle.oxc_sourcemap_steps.specs.Composed.{may_be_id}

-- the index of a text among the names up to one more
pub index_step : {A : Type 0} (f : A → Text) (text : Text) (names : List A) (i : ℕ) (name : A) → i < length names → name ≡ get_or names i name
    → index_of text (map f (take (i + 1) names)) ≡ option_or (index_of text (map f (take i names))) (cond (bytes_eq text (f name)) (Some i) None)
index_step f text names i name h e =
    let more : take (i + 1) names ≡ take i names ++ name ∷ [] = take_more names i name h ∙ ap (λ x. take i names ++ x ∷ []) (sym e) in
    let count : length (map f (take i names)) ≡ i = length-map (take i names) f ∙ length-take-le i names (omega (arith, h)) in
    ap (λ xs. index_of text (map f xs)) more ∙ ap (index_of text) (map-append f (take i names) (name ∷ [])) ∙ index-push text (map f (take i names)) (f name)
    ∙ ap (λ n. option_or (index_of text (map f (take i names))) (cond (bytes_eq text (f name)) (Some n) None)) count

-- at first, no name of the first map has got an id
slice_get-replicate : {X : Type 0} (n i : ℕ) (x y : X) → slice_get (replicate n x) i ≡ Some y → x ≡ y
slice_get-replicate zero i x y e = absurd (cc (e))
slice_get-replicate (suc n) zero x y e = cc (e)
slice_get-replicate (suc n) (suc i) x y e = slice_get-replicate n i x y e

take-nil : {X : Type 0} (n : ℕ) (xs : List X) → xs ≡ [] → take n xs ≡ []
take-nil zero xs e = refl
take-nil (suc n) [] e = refl
take-nil (suc n) (x ∷ xs) e = absurd (cc (e))

length-replicate : {X : Type 0} (n : ℕ) (x : X) → length (replicate n x) ≡ n
length-replicate zero x = refl
length-replicate (suc n) x = ap suc (length-replicate n x)

pub resized : {X : Type 0} (olds news : List X) (n k : ℕ) (x : X) → olds ≡ [] → k ≡ 0 → news ≡ take n olds ++ replicate (n - k) x → news ≡ replicate n x
resized olds news n k x e h is = is ∙ ap (λ xs. xs ++ replicate (n - k) x) (take-nil n olds e) ∙ ap (λ m. replicate m x) (omega (arith, h))

pub all_up_to_repeats : {X : Type 0} (xs : List X) (n : ℕ) (x : X) → xs ≡ replicate n x → (length xs ≡ n) × ((i : ℕ) (y : X) → slice_get xs i ≡ Some y → x ≡ y)
all_up_to_repeats xs n x e = (ap length e ∙ length-replicate n x, λ i y f. slice_get-replicate n i x y (sym (ap (λ ys. slice_get ys i) e) ∙ f))

-- one more inherited name, at the end
pub names_push : (second : List Text) (names : List (Bor Text)) (name : Bor Text) → second ++ map (λ t. t.now) (names ++ name ∷ []) ≡ (second ++ map (λ t. t.now) names) ++ name.now ∷ []
names_push second names name = ap (λ ns. second ++ ns) (map-append (λ t. t.now) names (name ∷ [])) ∙ sym (append_assoc second (map (λ t. t.now) names) (name.now ∷ []))

pub length-names : {A : Type 0} (f : A → Text) (second : List A) (names : List (Bor Text)) → length (map f second ++ map (λ t. t.now) names) ≡ length second + length names
length-names f second names =
    length-append (map f second) (map (λ t. t.now) names) ∙ ap (λ n. n + length (map (λ t. t.now) names)) (length-map second f) ∙ ap (λ n. length second + n) (length-map names (λ t. t.now))

pub past_id : (name : Text) (names : List Text) → index_of name names ≡ None → 4294967295 ≤ length names → may_be_id (index_of name (with_text names name)) ≡ false
past_id name names none h =
    let last : unwrap_or (index_of name names) (length names) ≡ length names = ap (λ o. unwrap_or o (length names)) none in
    let past : nat_lt (length names) 4294967295 ≡ false = grind (arith, h) in
    ap may_be_id (index-with name names) ∙ ap (λ n. nat_lt n 4294967295) last ∙ past

other : (b : Bool) (o : Option ℕ) (m : ℕ) → (b ≡ true → false ≡ true) → o ≡ option_or o (cond b (Some m) None)
other b (Some i) m h = refl
other true None m h = absurd (cc (h refl))
other false None m h = refl

-- the map of indices with the new name has the indices of all names
put-by : (b : Bool) (text name : Text) (names : List Text) (n : ℕ) → bytes_eq name text ≡ b → index_of name names ≡ None → n ≡ length names
    → cond b (Some n) (index_of text names) ≡ option_or (index_of text names) (cond (bytes_eq text name) (Some (length names)) None)
put-by true text name names n e none count =
    let same : name ≡ text = (bytes_eq-Decides name text).0 e in
    let back : bytes_eq text name ≡ true = (bytes_eq-Decides text name).1 (sym same) in
    let new : index_of text names ≡ None = sym (ap (λ t. index_of t names) same) ∙ none in
    ap (λ m. Some m) count ∙ sym (ap (λ o. option_or o (cond (bytes_eq text name) (Some (length names)) None)) new ∙ ap (λ b. cond b (Some (length names)) None) back)
put-by false text name names n e none count = other (bytes_eq text name) (index_of text names) (length names) (λ back. cc (e, (bytes_eq-Decides name text).1 (sym ((bytes_eq-Decides text name).0 back))))

pub put_place : (text name : Text) (names : List Text) (n : ℕ) → index_of name names ≡ None → n ≡ length names → cond (bytes_eq name text) (Some n) (index_of text names) ≡ index_of text (names ++ name ∷ [])
put_place text name names n none count = put-by (bytes_eq name text) text name names n refl none count ∙ sym (index-push text names name)

pub not_empty : {K X : Type 0} (test : K → Bool) (es : List (K × X)) (x : X) → lookup test es ≡ Some x → 0 < length es
not_empty test [] x e = absurd (cc (e))
not_empty test (y ∷ ys) x e = omega arith

-- the name at an index, as bytes
pub name_at : {A : Type 0} (f : A → Text) (names : List A) (i : ℕ) (name : A) → i < length names → name ≡ get_or names i name → slice_get (map f names) i ≡ Some (f name)
name_at f [] i name h e = absurd (omega (arith, h))
name_at f (y ∷ ys) zero name h e = ap (λ x. Some (f x)) (sym e)
name_at f (y ∷ ys) (suc i) name h e = name_at f ys i name (omega (arith, h)) e

-- the ids that are kept, with one more
pub set-same : {X : Type 0} (xs : List X) (i : ℕ) (x : X) → i < length xs → slice_get (set xs i x) i ≡ Some x
set-same [] i x h = absurd (omega (arith, h))
set-same (y ∷ ys) zero x h = refl
set-same (y ∷ ys) (suc i) x h = set-same ys i x (omega (arith, h))

set-other : {X : Type 0} (xs : List X) (i j : ℕ) (x : X) → j ≢ i → slice_get (set xs i x) j ≡ slice_get xs j
set-other [] i j x h = refl
set-other (y ∷ ys) zero zero x h = absurd (h refl)
set-other (y ∷ ys) zero (suc j) x h = refl
set-other (y ∷ ys) (suc i) zero x h = refl
set-other (y ∷ ys) (suc i) (suc j) x h = set-other ys i j x (λ e. h (ap suc e))

-- each id that is kept is the one of its name
abbrev pub AreIds : List Text → List Text → List (Option ℕ) → Type 0
AreIds first names ids = (i id : ℕ) (name : Text) → slice_get first i ≡ Some name → slice_get ids i ≡ Some (Some id) → (index_of name names ≡ Some id) × (id < 4294967295)

module _ (first old new : List Text) (ids : List (Option ℕ)) (i id : ℕ) (name : Text) (kept : AreIds first old ids) (more : new ≡ with_text old name) (at : slice_get first i ≡ Some name) (h : i < length ids)
    (index : index_of name new ≡ Some id) (small : id < 4294967295) where
  ids-by : (b : Bool) (j k : ℕ) (other : Text) → (j == i) ≡ b → slice_get first j ≡ Some other → slice_get (set ids i (Some id)) j ≡ Some (Some k) → (index_of other new ≡ Some k) × (k < 4294967295)
  ids-by true j k other e f g =
      let same : j ≡ i = grind (arith, e) in
      let name_is : name ≡ other = cc (at, f, same) in
      let id_is : id ≡ k = cc (set-same ids i (Some id) h, g, same) in
      (sym (ap (λ t. index_of t new) name_is) ∙ index ∙ ap (λ n. Some n) id_is, omega (arith, id_is, small))
  ids-by false j k other e f g =
      let apart : j ≢ i = grind (arith, e) in
      let was = kept j k other f (sym (set-other ids i j (Some id) apart) ∙ g) in
      (ap (index_of other) more ∙ index-stays_with other k old name was.0, was.1)

  pub ids_more : AreIds first new (set ids i (Some id))
  ids_more j k other f g = ids-by (j == i) j k other refl f g
