-- Arrays whose entries are written one by one, from the first on.
use Rattle.std.proofs.Common.{◌≡◌, refl, sym, ap, ◌∙◌, ℕ, zero, suc, ◌+◌, ◌<◌, List, [], ◌∷◌, ◌++◌}
use Rattle.std.proofs.Common.{length, take, drop, map, get_or, slice_set, min, inl, inr, arith}
use Rattle.std.proofs.Common.{subst}
use Rattle.std.proofs.lemmas.Bool.{cases_lt}
use Rattle.std.proofs.lemmas.List.{drop_more, take_more_set, drop-set-lt, map_more}
use Rattle.std.proofs.lemmas.List.{take-append-drop, take_all, drop_all, length-take, get_or-take}
use Rattle.std.specs.List.{AllZip}
use Rattle.oxc_sourcemap_c.specs.Listed.{filled, AreFilled}

-- one more entry is written
pub written-next : {A B : Type 0} (f : B → A) (xs : List B) (now : List A) (i : ℕ) (d : B) → i < length xs → i < length now → take i now ≡ map f (take i xs)
    → take (i + 1) (slice_set now i (f (get_or xs i d))) ≡ map f (take (i + 1) xs)
written-next f xs now i d lt within e =
    take_more_set now i (f (get_or xs i d)) within ∙ ap (λ ys. ys ++ f (get_or xs i d) ∷ []) e ∙ sym (map_more f xs i d lt)

pub left-next : {A : Type 0} (now old : List A) (i : ℕ) (x : A) → drop i now ≡ drop i old → i < length now → length now ≡ length old → drop (i + 1) (slice_set now i x) ≡ drop (i + 1) old
left-next now old i x e within same =
    let both = sym (drop_more now i x within) ∙ e ∙ drop_more old i x (omega (arith, same, within)) in
    drop-set-lt (i + 1) now i x (omega arith) ∙ ap (drop 1) both

-- all entries are written that there is room for
pub filled-by : {A : Type 0} (list old now : List A) (n : ℕ) → n ≡ min (length list) (length old) → length now ≡ length old → take n now ≡ take n list → drop n now ≡ drop n old → now ≡ filled list old
filled-by list old now n is same front back =
    let whole : now ≡ take n list ++ drop n old = sym (take-append-drop n now) ∙ ap (λ xs. xs ++ drop n now) front ∙ ap (λ ys. take n list ++ ys) back in
    elim (cases_lt (length list) (length old)) [
      | inl less ↦
          let n_is : n ≡ length list = omega (arith, is, less) in
          let a : take n list ≡ take (length old) list = take_all n list (omega (arith, n_is)) ∙ sym (take_all (length old) list (omega (arith, less))) in
          whole ∙ ap (λ xs. xs ++ drop n old) a ∙ ap (λ k. take (length old) list ++ drop k old) n_is
      | inr more ↦
          let n_is : n ≡ length old = omega (arith, is, more) in
          let b : drop n old ≡ drop (length list) old = drop_all n old (omega (arith, n_is)) ∙ sym (drop_all (length list) old more) in
          whole ∙ ap (λ k. take k list ++ drop n old) n_is ∙ ap (λ ys. take (length old) list ++ ys) b
    ]

pub take_mapped : {A B : Type 0} (f : B → A) (xs : List B) (n : ℕ) → map f (take n xs) ≡ take n (map f xs)
take_mapped f [] zero = refl
take_mapped f [] (suc n) = refl
take_mapped f (x ∷ xs) zero = refl
take_mapped f (x ∷ xs) (suc n) = ap (λ ys. f x ∷ ys) (take_mapped f xs n)

-- two lists of one length are related item by item if they are so at each index
pub all_zip : {A B : Type 0} (R : A → B → Type 0) (xs : List A) (ys : List B) → length xs ≡ length ys
    → ((k : ℕ) (a : A) (b : B) → k < length xs → R (get_or xs k a) (get_or ys k b)) → AllZip R xs ys
all_zip R [] [] e each = tt
all_zip R [] (y ∷ ys) e each = absurd (cc e)
all_zip R (x ∷ xs) [] e each = absurd (cc e)
all_zip R (x ∷ xs) (y ∷ ys) e each = (each 0 x y (omega arith), all_zip R xs ys (omega arith) (λ k a b below. each (suc k) a b (omega arith)))

-- the same of entries that are known by a relation alone
pub are_filled : {A B : Type 0} (Is : A → B → Type 0) (list : List B) (old now : List A) (n : ℕ) → n ≡ min (length list) (length old) → length now ≡ length old
    → ((k : ℕ) (a : A) (b : B) → k < n → Is (get_or now k a) (get_or list k b)) → drop n now ≡ drop n old → AreFilled Is list old now
are_filled Is list old now n is same each back = record {
  entries =
      all_zip Is (take (length list) now) (take (length old) list) (omega (arith, length-take (length list) now, length-take (length old) list, same))
      (λ k a b lt.
      let here : k < n = omega (arith, lt, is, same, length-take (length list) now) in
      let e = get_or-take (length list) now k a (omega (arith, here, is)) in
      let f = get_or-take (length old) list k b (omega (arith, here, is)) in
      subst (λ x. Is x (get_or (take (length old) list) k b)) (sym e) (subst (λ y. Is (get_or now k a) y) (sym f) (each k a b here)));
  others = elim (cases_lt (length list) (length old)) [
    | inl less ↦ (let n_is : n ≡ length list = omega (arith, is, less) in ap (λ k. drop k now) (sym n_is) ∙ back ∙ ap (λ k. drop k old) n_is)
    | inr more ↦ drop_all (length list) now (omega (arith, same, more)) ∙ sym (drop_all (length list) old more)
  ];
}
