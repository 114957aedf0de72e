-- Strings that are moved out of a list, one by one.
use Rattle.std.proofs.Common.{◌≡◌, refl, sym, ap, ◌∙◌, ℕ, zero, suc, ◌<◌, false, ◌==◌, List, []}
use Rattle.std.proofs.Common.{◌∷◌, ◌++◌, map, length, get_or, set, arith, append_assoc}
use Rattle.std.proofs.lemmas.Bool.Decides.{nat_tests}
use Rattle.std.proofs.lemmas.List.{map-append}
use Rattle.std.specs.List.{AllByRecursion}

pub get-seen : {A B : Type 0} (f : A → B) (xs : List A) (k : ℕ) (d : B) (v : A) → k < length xs → v ≡ get_or xs k v → f v ≡ get_or (map f xs) k d
get-seen f [] k d v h e = absurd (omega (arith, h))
get-seen f (x ∷ xs) zero d v h e = ap f e
get-seen f (x ∷ xs) (suc k) d v h e = get-seen f xs k d v (omega (arith, h)) e

-- what stands elsewhere stays
get-other : {A B : Type 0} (f : A → B) (xs : List A) (k j : ℕ) (y : A) (d : B) → (k == j) ≡ false → get_or (map f (set xs k y)) j d ≡ get_or (map f xs) j d
get-other f [] zero j y d e = refl
get-other f [] (suc k) j y d e = refl
get-other f (x ∷ xs) zero zero y d e = absurd (grind (arith, nat_tests, e))
get-other f (x ∷ xs) zero (suc j) y d e = refl
get-other f (x ∷ xs) (suc k) zero y d e = refl
get-other f (x ∷ xs) (suc k) (suc j) y d e = let h : (k == j) ≡ false = grind (arith, nat_tests, e) in get-other f xs k j y d h

all-other : {A B : Type 0} (f : A → B) (xs : List A) (k : ℕ) (y : A) (d : B) (ks : List ℕ) → AllByRecursion (λ j. (k == j) ≡ false) ks → map (λ j. get_or (map f (set xs k y)) j d) ks ≡ map (λ j. get_or (map f xs) j d) ks
all-other f xs k y d [] h = refl
all-other f xs k y d (j ∷ ks) h =
    ap (λ z. z ∷ map (λ i. get_or (map f (set xs k y)) i d) ks) (get-other f xs k j y d h.0) ∙ ap (λ zs. get_or (map f xs) j d ∷ zs) (all-other f xs k y d ks h.1)

-- one more that is moved
pub moved-more : {A B : Type 0} (f : A → B) (xs : List A) (k : ℕ) (y : A) (d : B) (v : A) (rest ks : List ℕ) (old new : List A) (all : List B) → ks ≡ k ∷ rest → new ≡ old ++ v ∷ [] → f v ≡ get_or (map f xs) k d
    → AllByRecursion (λ j. (k == j) ≡ false) rest → map f old ++ map (λ j. get_or (map f xs) j d) ks ≡ all
    → map f new ++ map (λ j. get_or (map f (set xs k y)) j d) rest ≡ all
moved-more f xs k y d v rest ks old new all split more at away inv =
    let tail = map (λ j. get_or (map f xs) j d) rest in
    ap (λ zs. map f new ++ zs) (all-other f xs k y d rest away)
    ∙ ap (λ ns. map f ns ++ tail) more ∙ ap (λ zs. zs ++ tail) (map-append f old (v ∷ []))
    ∙ append_assoc (map f old) (f v ∷ []) tail
    ∙ ap (λ z. map f old ++ z ∷ tail) at
    ∙ ap (λ js. map f old ++ map (λ j. get_or (map f xs) j d) js) (sym split) ∙ inv
