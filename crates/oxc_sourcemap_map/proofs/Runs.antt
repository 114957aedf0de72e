-- Parts of a list between two indices, and the first and last items that pass a test.
use Rattle.std.proofs.Common.{◌≡◌, refl, sym, ap, ◌∙◌, ℕ, zero, suc, ◌+◌, ◌<◌, ◌≤◌, Bool, true}
use Rattle.std.proofs.Common.{false, cond, List, [], ◌∷◌, length, get_or, take, drop, map, Option}
use Rattle.std.proofs.Common.{Some, None, arith}
use Rattle.std.specs.List.{filter, last_or}
use Rattle.oxc_sourcemap_tokens.specs.Token.{last}
use Rattle.oxc_sourcemap_lookup.specs.Lookup.{first}

module _ {A : Type 0} (p q : A → Bool) where
  pub filter_none : (xs : List A) → ((i : ℕ) (d : A) → i < length xs → p (get_or xs i d) ≡ false) → filter p xs ≡ []
  filter_none [] h = refl
  filter_none (x ∷ xs) h = ap (λ b. cond b (x ∷ filter p xs) (filter p xs)) (h 0 x (omega arith)) ∙ filter_none xs (λ i d g. h (suc i) d (omega (arith, g)))

  -- where p passes only items of a part, and there those that q passes
  pub filter_part : (xs : List A) (lo m : ℕ) → lo + m ≤ length xs → ((i : ℕ) (d : A) → i < lo → p (get_or xs i d) ≡ false)
      → ((i : ℕ) (d : A) → lo + m ≤ i → i < length xs → p (get_or xs i d) ≡ false)
      → ((i : ℕ) (d : A) → lo ≤ i → i < lo + m → p (get_or xs i d) ≡ q (get_or xs i d))
      → filter q (take m (drop lo xs)) ≡ filter p xs
  filter_part [] zero zero l b f u = refl
  filter_part [] (suc lo) m l b f u = absurd (omega (arith, l))
  filter_part [] zero (suc m) l b f u = absurd (omega (arith, l))
  filter_part (x ∷ xs) zero zero l b f u = sym (filter_none (x ∷ xs) (λ i d g. f i d (omega arith) g))
  filter_part (x ∷ xs) zero (suc m) l b f u =
      ap (λ ys. cond (q x) (x ∷ ys) ys) (filter_part xs zero m (omega (arith, l)) (λ i d g. absurd (omega (arith, g))) (λ i d g w. f (suc i) d (omega (arith, g)) (omega (arith, w))) (λ i d g w. u (suc i) d (omega arith) (omega (arith, w))))
      ∙ ap (λ b. cond b (x ∷ filter p xs) (filter p xs)) (sym (u 0 x (omega arith) (omega arith)))
  filter_part (x ∷ xs) (suc lo) m l b f u =
      filter_part xs lo m (omega (arith, l)) (λ i d g. b (suc i) d (omega (arith, g))) (λ i d g w. f (suc i) d (omega (arith, g)) (omega (arith, w))) (λ i d g w. u (suc i) d (omega (arith, g)) (omega (arith, w)))
      ∙ ap (λ b. cond b (x ∷ filter p xs) (filter p xs)) (sym (b 0 x (omega arith)))

module _ {A : Type 0} (p : A → Bool) where
  -- the first item that passes
  pub first_passing : (xs : List A) (i : ℕ) (d : A) → i < length xs → p (get_or xs i d) ≡ true → ((j : ℕ) (e : A) → j < i → p (get_or xs j e) ≡ false) → first (filter p xs) ≡ Some (get_or xs i d)
  first_passing [] i d l h b = absurd (omega (arith, l))
  first_passing (x ∷ xs) zero d l h b = ap (λ b. first (cond b (x ∷ filter p xs) (filter p xs))) h
  first_passing (x ∷ xs) (suc i) d l h b =
      ap (λ b. first (cond b (x ∷ filter p xs) (filter p xs))) (b 0 x (omega arith)) ∙ first_passing xs i d (omega (arith, l)) h (λ j e g. b (suc j) e (omega (arith, g)))

  last_passing-by : (b : Bool) (o : Option A) (x : A) (xs : List A) (y : A) → ((o : Option A) → last_or o xs ≡ Some y) → last_or o (cond b (x ∷ xs) xs) ≡ Some y
  last_passing-by true o x xs y h = h (Some x)
  last_passing-by false o x xs y h = h o

  last_passing-or : (o : Option A) (xs : List A) (i : ℕ) (d : A) → i < length xs → p (get_or xs i d) ≡ true → ((j : ℕ) (e : A) → i < j → j < length xs → p (get_or xs j e) ≡ false) → last_or o (filter p xs) ≡ Some (get_or xs i d)
  last_passing-or o [] i d l h b = absurd (omega (arith, l))
  last_passing-or o (x ∷ xs) zero d l h b =
      ap (λ b. last_or o (cond b (x ∷ filter p xs) (filter p xs))) h ∙ ap (last_or (Some x)) (filter_none p p xs (λ j e g. b (suc j) e (omega arith) (omega (arith, g))))
  last_passing-or o (x ∷ xs) (suc i) d l h b =
      last_passing-by (p x) o x (filter p xs) (get_or xs i d) (λ o. last_passing-or o xs i d (omega (arith, l)) h (λ j e g w. b (suc j) e (omega (arith, g)) (omega (arith, w))))

  -- the last item that passes
  pub last_passing : (xs : List A) (i : ℕ) (d : A) → i < length xs → p (get_or xs i d) ≡ true → ((j : ℕ) (e : A) → i < j → j < length xs → p (get_or xs j e) ≡ false) → last (filter p xs) ≡ Some (get_or xs i d)
  last_passing xs i d l h b = last_passing-or None xs i d l h b

take_listed : {A B : Type 0} (f : A → B) (xs : List A) (m : ℕ) → map f (take m xs) ≡ take m (map f xs)
take_listed f [] zero = refl
take_listed f [] (suc m) = refl
take_listed f (x ∷ xs) zero = refl
take_listed f (x ∷ xs) (suc m) = ap (λ ys. f x ∷ ys) (take_listed f xs m)

drop_listed : {A B : Type 0} (f : A → B) (xs : List A) (m : ℕ) → map f (drop m xs) ≡ drop m (map f xs)
drop_listed f [] zero = refl
drop_listed f [] (suc m) = refl
drop_listed f (x ∷ xs) zero = refl
drop_listed f (x ∷ xs) (suc m) = drop_listed f xs m

pub map_part : {A B : Type 0} (f : A → B) (xs : List A) (lo m : ℕ) → map f (take m (drop lo xs)) ≡ take m (drop lo (map f xs))
map_part f xs lo m = take_listed f (drop lo xs) m ∙ ap (take m) (drop_listed f xs lo)

-- what stands at an index of a part
pub part_read : {A : Type 0} (xs : List A) (lo m k : ℕ) (d : A) → k < m → get_or (take m (drop lo xs)) k d ≡ get_or xs (lo + k) d
part_read xs lo zero k d h = absurd (omega (arith, h))
part_read [] zero (suc m) zero d h = refl
part_read [] zero (suc m) (suc k) d h = (let e : 0 + suc k ≡ suc k = omega arith in ap (λ i. get_or [] i d) (sym e))
part_read [] (suc lo) (suc m) zero d h = (let e : suc lo + 0 ≡ suc lo = omega arith in ap (λ i. get_or [] i d) (sym e))
part_read [] (suc lo) (suc m) (suc k) d h = (let e : suc lo + suc k ≡ suc (lo + suc k) = omega arith in ap (λ i. get_or [] i d) (sym e))
part_read (x ∷ xs) zero (suc m) zero d h = refl
part_read (x ∷ xs) zero (suc m) (suc k) d h =
    let e : 0 + suc k ≡ suc (0 + k) = omega arith in
    part_read xs zero m k d (omega (arith, h)) ∙ ap (λ i. get_or (x ∷ xs) i d) (sym e)
part_read (x ∷ xs) (suc lo) (suc m) k d h =
    let e : suc lo + k ≡ suc (lo + k) = omega arith in
    part_read xs lo (suc m) k d h ∙ ap (λ i. get_or (x ∷ xs) i d) (sym e)
