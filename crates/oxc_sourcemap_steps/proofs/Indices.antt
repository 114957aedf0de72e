-- Lists, by their indices.
use Rattle.std.proofs.Common.{◌≡◌, ap, ◌∙◌, ℕ, zero, suc, ◌+◌, List, [], ◌∷◌, ◌++◌, take, drop}
use Rattle.std.proofs.Common.{slice_get, Some, arith}

pub some_is : {A : Type 0} {x y : A} → Some x ≡ Some y → x ≡ y
some_is e = cc (e)

-- the items up to one more
pub take-one : {A : Type 0} (xs : List A) (k : ℕ) (x : A) → slice_get xs k ≡ Some x → take (k + 1) xs ≡ take k xs ++ x ∷ []
take-one [] k x e = absurd (cc (e))
take-one (y ∷ ys) zero x e = ap (λ z. z ∷ []) (some_is e)
take-one (y ∷ ys) (suc k) x e = let n : suc k + 1 ≡ suc (k + 1) = omega arith in ap (λ m. take m (y ∷ ys)) n ∙ ap (λ zs. y ∷ zs) (take-one ys k x e)

-- one item from an index on
pub one-at : {A : Type 0} (xs : List A) (i : ℕ) (x : A) → slice_get xs i ≡ Some x → take 1 (drop i xs) ≡ x ∷ []
one-at [] i x e = absurd (cc (e))
one-at (y ∷ ys) zero x e = ap (λ z. z ∷ []) (some_is e)
one-at (y ∷ ys) (suc i) x e = one-at ys i x e
