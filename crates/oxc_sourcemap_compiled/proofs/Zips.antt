-- Two lists, item by item.
use Rattle.std.proofs.Common.{◌≡◌, ℕ, suc, ◌+◌, ◌<◌, List, [], ◌∷◌, length, take, get_or, slice_set}
use Rattle.std.proofs.Common.{sym, subst, inl, inr, arith}
use Rattle.std.proofs.lemmas.Bool.{cases_lt}
use Rattle.std.proofs.lemmas.List.{get_or-set_same, get_or-set_other, get_or_default}
use Rattle.std.specs.List.{AllZip}

-- two lists are related item by item, as far as both go, if they are so at each index
pub taken-zip : {A B : Type 0} (R : A → B → Type 0) (xs : List A) (ys : List B) → ((k : ℕ) (a : A) (b : B) → k < length xs → k < length ys → R (get_or xs k a) (get_or ys k b))
    → AllZip R (take (length ys) xs) (take (length xs) ys)
taken-zip R [] [] each = tt
taken-zip R [] (y ∷ ys) each = tt
taken-zip R (x ∷ xs) [] each = tt
taken-zip R (x ∷ xs) (y ∷ ys) each = (each 0 x y (omega arith) (omega arith), taken-zip R xs ys (λ k a b p q. each (suc k) a b (omega (arith, p)) (omega (arith, q))))

-- one more item of the second is written
pub written-more : {A B : Type 0} (R : A → B → Type 0) (xs : List A) (ys : List B) (i : ℕ) (x : A) (y : B) → i < length xs → i < length ys
    → ((k : ℕ) (a : A) (b : B) → k < i → R (get_or xs k a) (get_or ys k b)) → R (get_or xs i x) y
    → (k : ℕ) (a : A) (b : B) → k < i + 1 → R (get_or xs k a) (get_or (slice_set ys i y) k b)
written-more R xs ys i x y p q done new k a b lt =
    elim (cases_lt k i) [
      | inl less ↦ subst (R (get_or xs k a)) (sym (get_or-set_other ys i k y b (λ e. omega (arith, less, e)))) (done k a b less)
      | inr more ↦
          let is : i ≡ k = omega (arith, lt, more) in
          let here = subst (λ z. R z y) (get_or_default xs i x a p) new in
          subst (λ j. R (get_or xs j a) (get_or (slice_set ys i y) j b)) is (subst (R (get_or xs i a)) (sym (get_or-set_same ys i y b q)) here)
    ]
