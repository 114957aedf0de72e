-- The indices of the items that pass a test, found one by one.
use Rattle.std.proofs.Common.{◌≡◌, refl, sym, ap, ◌∙◌, ℕ, zero, suc, ◌+◌, ◌<◌, ◌≤◌, Bool, true}
use Rattle.std.proofs.Common.{false, cond, List, [], ◌∷◌, ◌++◌, length, take, drop, get_or}
use Rattle.std.proofs.Common.{slice_get, slice_set, Option, Some, None, IfSome, arith}
use Rattle.std.proofs.lemmas.List.{take_all, drop_all, take_more_set, drop-set-lt, length-append}
use Rattle.std.proofs.lemmas.List.{take-append-le, drop-drop, length-drop, length-set}
use Rattle.oxc_sourcemap_tokens.specs.Token.{TokenRecord}
use Rattle.oxc_sourcemap_map.specs.Reverse.{passing_from, passing, is_at, is_into, indices_beside}
use Rattle.oxc_sourcemap_map.specs.Reverse.{generated_for, generated_from}
use Rattle.oxc_sourcemap_c.specs.declared.numbers.options.Direction.{Direction}
use Rattle.oxc_sourcemap_c.specs.declared.numbers.options.Direction.TheVariants.{At, For}
use Rattle.oxc_sourcemap_c.specs.declared.numbers.options.Direction.TheVariants.{From, OnLine}
use Rattle.oxc_sourcemap_c.specs.declared.reading.reverse.SourcePlace.{SourcePlace}
use Rattle.oxc_sourcemap_c.specs.Reverse.{answering}
use Rattle.oxc_sourcemap_c.specs.Listed.{filled}
use Rattle.oxc_sourcemap_c.proofs.Filling.{filled-by}

module _ {A : Type 0} (p : A → Bool) where
  -- the index of an item, if it passes
  abbrev pub passing_here : ℕ → A → List ℕ
  passing_here i x = cond (p x) (i ∷ []) []

  joined-by : (b : Bool) (i : ℕ) (xs ys zs : List ℕ) → xs ≡ ys ++ zs → cond b (i ∷ xs) xs ≡ cond b (i ∷ ys) ys ++ zs
  joined-by true i xs ys zs e = ap (λ ys. i ∷ ys) e
  joined-by false i xs ys zs e = e

  passing-more : (xs : List A) (n i : ℕ) (d : A) → i < length xs → passing_from n p (take (suc i) xs) ≡ passing_from n p (take i xs) ++ passing_here (n + i) (get_or xs i d)
  passing-more [] n i d h = absurd (omega (arith, h))
  passing-more (x ∷ xs) n zero d h = (let e : n ≡ n + 0 = omega arith in ap (λ k. cond (p x) (k ∷ []) []) e)
  passing-more (x ∷ xs) n (suc i) d h =
      let e : n + 1 + i ≡ n + suc i = omega arith in
      joined-by (p x) n _ _ _ (passing-more xs (n + 1) i d (omega (arith, h))) ∙ ap (λ k. passing_from n p (take (suc i) (x ∷ xs)) ++ passing_here k (get_or xs i d)) e

  pub passing_next : (xs : List A) (i : ℕ) (d : A) → i < length xs → passing p (take (i + 1) xs) ≡ passing p (take i xs) ++ passing_here i (get_or xs i d)
  passing_next xs i d h =
      let e : i + 1 ≡ suc i = omega arith in
      let f : 0 + i ≡ i = omega arith in
      ap (λ k. passing p (take k xs)) e ∙ passing-more xs 0 i d h ∙ ap (λ k. passing p (take i xs) ++ passing_here k (get_or xs i d)) f

  none_from : (xs : List A) (n : ℕ) → ((k : ℕ) (d : A) → k < length xs → p (get_or xs k d) ≡ false) → passing_from n p xs ≡ []
  none_from [] n h = refl
  none_from (x ∷ xs) n h = ap (λ b. cond b (n ∷ passing_from (n + 1) p xs) (passing_from (n + 1) p xs)) (h 0 x (omega arith)) ∙ none_from xs (n + 1) (λ k d lt. h (suc k) d (omega (arith, lt)))

  pub none_passing : (xs : List A) → ((k : ℕ) (d : A) → k < length xs → p (get_or xs k d) ≡ false) → passing p xs ≡ []
  none_passing xs h = none_from xs 0 h

  front_from : (xs : List A) (n m : ℕ) → ((k : ℕ) (d : A) → m ≤ k → k < length xs → p (get_or xs k d) ≡ false) → passing_from n p (take m xs) ≡ passing_from n p xs
  front_from [] n zero h = refl
  front_from [] n (suc m) h = refl
  front_from (x ∷ xs) n zero h = sym (none_from (x ∷ xs) n (λ k d lt. h k d (omega arith) lt))
  front_from (x ∷ xs) n (suc m) h = ap (λ is. cond (p x) (n ∷ is) is) (front_from xs (n + 1) m (λ k d le lt. h (suc k) d (omega (arith, le)) (omega (arith, lt))))

  -- those of a front, if no item behind it passes
  pub front_passing : (xs : List A) (m : ℕ) → ((k : ℕ) (d : A) → m ≤ k → k < length xs → p (get_or xs k d) ≡ false) → passing p (take m xs) ≡ passing p xs
  front_passing xs m h = front_from xs 0 m h

  first_from : (xs : List A) (n i : ℕ) (d : A) → i < length xs → p (get_or xs i d) ≡ true → ((k : ℕ) (e : A) → k < i → p (get_or xs k e) ≡ false) → slice_get (passing_from n p xs) 0 ≡ Some (n + i)
  first_from [] n i d h e b = absurd (omega (arith, h))
  first_from (x ∷ xs) n zero d h e b = (let same : n ≡ n + 0 = omega arith in ap (λ b. slice_get (cond b (n ∷ passing_from (n + 1) p xs) (passing_from (n + 1) p xs)) 0) e ∙ ap Some same)
  first_from (x ∷ xs) n (suc i) d h e b =
      let same : n + 1 + i ≡ n + suc i = omega arith in
      ap (λ b. slice_get (cond b (n ∷ passing_from (n + 1) p xs) (passing_from (n + 1) p xs)) 0) (b 0 x (omega arith))
      ∙ first_from xs (n + 1) i d (omega (arith, h)) e (λ k g lt. b (suc k) g (omega (arith, lt))) ∙ ap Some same

  -- the first item that passes has the first index
  pub first_passing : (xs : List A) (i : ℕ) (d : A) → i < length xs → p (get_or xs i d) ≡ true → ((k : ℕ) (e : A) → k < i → p (get_or xs k e) ≡ false) → slice_get (passing p xs) 0 ≡ Some i
  first_passing xs i d h e b = (let same : 0 + i ≡ i = omega arith in first_from xs 0 i d h e b ∙ ap Some same)

pub outside_false : (b : Bool) → (b ≡ true → ⊥) → b ≡ false
outside_false true h = absurd (h refl)
outside_false false h = refl

below-by : (b : Bool) (n m i : ℕ) (is : List ℕ) → n < m → (slice_get is 0 ≡ Some i → i < m) → slice_get (cond b (n ∷ is) is) 0 ≡ Some i → i < m
below-by true n m i is lt h e = (let same : n ≡ i = cc (e) in omega (arith, same, lt))
below-by false n m i is lt h e = h e

first_below : {A : Type 0} (p : A → Bool) (xs : List A) (n i : ℕ) → slice_get (passing_from n p xs) 0 ≡ Some i → i < n + length xs
first_below p [] n i e = absurd (cc (e))
first_below p (x ∷ xs) n i e = below-by (p x) n (n + length (x ∷ xs)) i (passing_from (n + 1) p xs) (omega arith) (λ f. omega (arith, first_below p xs (n + 1) i f)) e

beside_below : (s l i : ℕ) (o : Option TokenRecord) (tokens : List TokenRecord) → slice_get (indices_beside s l o tokens) 0 ≡ Some i → i < length tokens
beside_below s l i None tokens e = absurd (cc (e))
beside_below s l i (Some t) tokens e = omega (arith, first_below (is_at s l t.src_col) tokens 0 i e)

answer_below : (direction : Direction) (at : SourcePlace) (tokens : List TokenRecord) (i : ℕ) → slice_get (answering direction at tokens) 0 ≡ Some i → i < length tokens
answer_below At at tokens i e = omega (arith, first_below (is_at at.source_id at.line at.column) tokens 0 i e)
answer_below For at tokens i e = beside_below at.source_id at.line i (generated_for at.source_id at.line at.column tokens) tokens e
answer_below From at tokens i e = beside_below at.source_id at.line i (generated_from at.source_id at.line at.column tokens) tokens e
answer_below OnLine at tokens i e = omega (arith, first_below (is_into at.source_id at.line) tokens 0 i e)

-- the first index that answers is that of a token
pub answer_within : (direction : Direction) (at : SourcePlace) (tokens : List TokenRecord) (o : Option ℕ) → o ≡ slice_get (answering direction at tokens) 0 → IfSome o (λ i. i < length tokens)
answer_within direction at tokens None e = tt
answer_within direction at tokens (Some i) e = answer_below direction at tokens i (sym e)

drop_past : {A : Type 0} (xs ys : List A) (k : ℕ) → drop (length xs + k) (xs ++ ys) ≡ drop k ys
drop_past [] ys k = (let e : 0 + k ≡ k = omega arith in ap (λ n. drop n ys) e)
drop_past (x ∷ xs) ys k = (let e : suc (length xs) + k ≡ suc (length xs + k) = omega arith in ap (λ n. drop n (x ∷ (xs ++ ys))) e ∙ drop_past xs ys k)

take_front : {A : Type 0} (xs ys : List A) → take (length xs) (xs ++ ys) ≡ xs
take_front [] ys = refl
take_front (x ∷ xs) ys = ap (λ zs. x ∷ zs) (take_front xs ys)

-- one more entry, where there is room, and where there is none
pub filled_more : {A : Type 0} (list old : List A) (x : A) → length list < length old → slice_set (filled list old) (length list) x ≡ filled (list ++ x ∷ []) old
filled_more list old x lt =
    let m = length list in
    let is : filled list old ≡ list ++ drop m old = ap (λ xs. xs ++ drop m old) (take_all (length old) list (omega (arith, lt))) in
    let long : length (filled list old) ≡ length old = omega (arith, ap length is, length-append list (drop m old), length-drop m old, lt) in
    let more : length (list ++ x ∷ []) ≡ m + 1 = omega (arith, length-append list (x ∷ [])) in
    filled-by (list ++ x ∷ []) old (slice_set (filled list old) m x) (m + 1) (omega (arith, more, lt)) (length-set (filled list old) m x ∙ long)
    (take_more_set (filled list old) m x (omega (arith, long, lt)) ∙ ap (λ ys. take m ys ++ x ∷ []) is ∙ ap (λ ys. ys ++ x ∷ []) (take_front list (drop m old)) ∙ sym (take_all (m + 1) (list ++ x ∷ []) (omega (arith, more))))
    (drop-set-lt (m + 1) (filled list old) m x (omega arith) ∙ ap (drop (m + 1)) is ∙ drop_past list (drop m old) 1 ∙ drop-drop 1 m old)

pub filled_none : {A : Type 0} (old : List A) → old ≡ filled [] old
filled_none old = sym (ap (λ xs. xs ++ old) (take_all (length old) [] (omega arith)))

pub filled_full : {A : Type 0} (list old : List A) (x : A) → length old ≤ length list → filled list old ≡ filled (list ++ x ∷ []) old
filled_full list old x le =
    ap (λ xs. take (length old) list ++ xs) (drop_all (length list) old le ∙ sym (drop_all (length (list ++ x ∷ [])) old (omega (arith, le, length-append list (x ∷ [])))))
    ∙ ap (λ xs. xs ++ drop (length (list ++ x ∷ [])) old) (sym (take-append-le (length old) list (x ∷ []) le))
