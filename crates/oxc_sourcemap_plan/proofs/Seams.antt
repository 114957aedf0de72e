-- Lists end to end with a seam, by recursion over the first.
use Rattle.std.proofs.Common.{◌≡◌, ◌+◌, ◌≤◌, Bool, true, false, cond, List, [], ◌∷◌, ◌++◌, map}
use Rattle.std.proofs.Common.{length, refl, sym, ap, ◌∙◌, subst, arith, Option, Some, None}
use Rattle.std.specs.Bool.{Decides}
use Rattle.std.specs.List.{AllByRecursion, last_or}
use Rattle.std.proofs.lemmas.List.{length-append}
use Rattle.oxc_sourcemap_tokens.specs.Token.{last}
use Rattle.oxc_sourcemap_join.specs.Joined.{without_repeat, seamed}
use Rattle.oxc_sourcemap_plan.proofs.DroppingRepeats.{IsBlind}

-- `seamed`, by recursion
abbrev stitched_after : {A : Type 0} → (A → A → Bool) → A → List A → List A → List A
stitched_after same x [] ys = without_repeat same (Some x) ys
stitched_after same x (y ∷ xs) ys = y ∷ stitched_after same y xs ys

abbrev stitched : {A : Type 0} → (A → A → Bool) → List A → List A → List A
stitched same [] ys = ys
stitched same (x ∷ xs) ys = x ∷ stitched_after same x xs ys

after-is : {A : Type 0} (same : A → A → Bool) (x : A) (xs ys : List A) → xs ++ without_repeat same (last_or (Some x) xs) ys ≡ stitched_after same x xs ys
after-is same x [] ys = refl
after-is same x (y ∷ xs) ys = ap (λ us. y ∷ us) (after-is same y xs ys)

seamed-is : {A : Type 0} (same : A → A → Bool) (xs ys : List A) → seamed same xs ys ≡ stitched same xs ys
seamed-is same [] ys = refl
seamed-is same (x ∷ xs) ys = ap (λ us. x ∷ us) (after-is same x xs ys)

module _ {A : Type 0} (same : A → A → Bool) (decides : (x y : A) → Decides (same x y) (x ≡ y)) where
  without-stitched : (x : A) (ys zs : List A) → stitched_after same x (without_repeat same (Some x) ys) zs ≡ without_repeat same (Some x) (stitched same ys zs)
  without-stitched x [] zs = refl
  without-stitched x (y ∷ ys) zs =
      elim (same x y) as (λ b. same x y ≡ b → stitched_after same x (cond b ys (y ∷ ys)) zs ≡ cond b (stitched_after same y ys zs) (y ∷ stitched_after same y ys zs)) [
        | true ↦ (λ q. ap (λ w. stitched_after same w ys zs) ((decides x y).0 q))
        | false ↦ (λ q. refl)
      ] refl

  after_assoc : (x : A) (xs ys zs : List A) → stitched_after same x (stitched_after same x xs ys) zs ≡ stitched_after same x xs (stitched same ys zs)
  after_assoc x [] ys zs = without-stitched x ys zs
  after_assoc x (w ∷ xs) ys zs = ap (λ us. w ∷ us) (after_assoc w xs ys zs)

  stitched_assoc : (xs ys zs : List A) → stitched same (stitched same xs ys) zs ≡ stitched same xs (stitched same ys zs)
  stitched_assoc [] ys zs = refl
  stitched_assoc (x ∷ xs) ys zs = ap (λ us. x ∷ us) (after_assoc x xs ys zs)

  after_nil : (x : A) (xs : List A) → stitched_after same x xs [] ≡ xs
  after_nil x [] = refl
  after_nil x (y ∷ xs) = ap (λ us. y ∷ us) (after_nil y xs)

  stitched_nil : (xs : List A) → stitched same xs [] ≡ xs
  stitched_nil [] = refl
  stitched_nil (x ∷ xs) = ap (λ us. x ∷ us) (after_nil x xs)

  without_all : (P : A → Type 0) (x : A) (ys : List A) → AllByRecursion P ys → AllByRecursion P (without_repeat same (Some x) ys)
  without_all P x [] h = tt
  without_all P x (y ∷ ys) h = elim (same x y) as (λ b. AllByRecursion P (cond b ys (y ∷ ys))) [ true ↦ h.1 | false ↦ h ]

  after_all : (P : A → Type 0) (x : A) (xs ys : List A) → AllByRecursion P xs → AllByRecursion P ys → AllByRecursion P (stitched_after same x xs ys)
  after_all P x [] ys h k = without_all P x ys k
  after_all P x (y ∷ xs) ys h k = (h.0, after_all P y xs ys h.1 k)

  stitched_all : (P : A → Type 0) (xs ys : List A) → AllByRecursion P xs → AllByRecursion P ys → AllByRecursion P (stitched same xs ys)
  stitched_all P [] ys h k = k
  stitched_all P (x ∷ xs) ys h k = (h.0, after_all P x xs ys h.1 k)

  -- a function that is blind to repeats is not changed by what a seam leaves out
  unstitched_after : {B : Type 0} (F : List A → B) → IsBlind F → (x : A) (xs ys : List A) → F (x ∷ stitched_after same x xs ys) ≡ F (x ∷ (xs ++ ys))
  unstitched_after F l x [] [] = refl
  unstitched_after F l x [] (y ∷ ys) =
      elim (same x y) as (λ b. same x y ≡ b → F (x ∷ cond b ys (y ∷ ys)) ≡ F (x ∷ y ∷ ys)) [
        | true ↦ (λ q. sym (l [] x ys) ∙ ap (λ z. F (x ∷ z ∷ ys)) ((decides x y).0 q))
        | false ↦ (λ q. refl)
      ] refl
  unstitched_after F l x (z ∷ xs) ys = unstitched_after (λ zs. F (x ∷ zs)) (λ ps. l (x ∷ ps)) z xs ys

  unstitched : {B : Type 0} (F : List A → B) → IsBlind F → (xs ys : List A) → F (stitched same xs ys) ≡ F (xs ++ ys)
  unstitched F l [] ys = refl
  unstitched F l (x ∷ xs) ys = unstitched_after F l x xs ys

module _ {A B : Type 0} (same : A → A → Bool) (other : B → B → Bool) (f : A → B) (keeps : (x y : A) → other (f x) (f y) ≡ same x y) where
  without-map : (x : A) (ys : List A) → map f (without_repeat same (Some x) ys) ≡ without_repeat other (Some (f x)) (map f ys)
  without-map x [] = refl
  without-map x (y ∷ ys) =
      rw (keeps x y) (elim (same x y) as (λ b. map f (cond b ys (y ∷ ys)) ≡ cond b (map f ys) (f y ∷ map f ys)) [ true ↦ refl | false ↦ refl ])

  after-map : (x : A) (xs ys : List A) → map f (stitched_after same x xs ys) ≡ stitched_after other (f x) (map f xs) (map f ys)
  after-map x [] ys = without-map x ys
  after-map x (y ∷ xs) ys = ap (λ us. f y ∷ us) (after-map y xs ys)

  stitched-map : (xs ys : List A) → map f (stitched same xs ys) ≡ stitched other (map f xs) (map f ys)
  stitched-map [] ys = refl
  stitched-map (x ∷ xs) ys = ap (λ us. f x ∷ us) (after-map x xs ys)

-- ---- `seamed` and repeats
module _ {A : Type 0} (same : A → A → Bool) (decides : (x y : A) → Decides (same x y) (x ≡ y)) where
  pub seamed_assoc : (xs ys zs : List A) → seamed same (seamed same xs ys) zs ≡ seamed same xs (seamed same ys zs)
  seamed_assoc xs ys zs =
      seamed-is same (seamed same xs ys) zs ∙ ap (λ us. stitched same us zs) (seamed-is same xs ys) ∙ stitched_assoc same decides xs ys zs
      ∙ ap (stitched same xs) (sym (seamed-is same ys zs)) ∙ sym (seamed-is same xs (seamed same ys zs))

  pub seamed_nil : (xs : List A) → seamed same xs [] ≡ xs
  seamed_nil xs = seamed-is same xs [] ∙ stitched_nil same decides xs

  pub seamed_all : (P : A → Type 0) (xs ys : List A) → AllByRecursion P xs → AllByRecursion P ys → AllByRecursion P (seamed same xs ys)
  seamed_all P xs ys h k = subst (AllByRecursion P) (sym (seamed-is same xs ys)) (stitched_all same decides P xs ys h k)

  pub unseamed : {B : Type 0} (F : List A → B) → IsBlind F → (xs ys : List A) → F (seamed same xs ys) ≡ F (xs ++ ys)
  unseamed F l xs ys = ap F (seamed-is same xs ys) ∙ unstitched same decides F l xs ys

module _ {A B : Type 0} (same : A → A → Bool) (other : B → B → Bool) (f : A → B) (keeps : (x y : A) → other (f x) (f y) ≡ same x y) where
  pub seamed-map : (xs ys : List A) → map f (seamed same xs ys) ≡ seamed other (map f xs) (map f ys)
  seamed-map xs ys = ap (map f) (seamed-is same xs ys) ∙ stitched-map same other f keeps xs ys ∙ sym (seamed-is other (map f xs) (map f ys))

length-without : {A : Type 0} (same : A → A → Bool) (o : Option A) (ys : List A) → length (without_repeat same o ys) ≤ length ys
length-without same None ys = omega arith
length-without same (Some x) [] = omega arith
length-without same (Some x) (y ∷ ys) = elim (same x y) as (λ b. length (cond b ys (y ∷ ys)) ≤ length (y ∷ ys)) [ true ↦ omega arith | false ↦ omega arith ]

pub length-seamed : {A : Type 0} (same : A → A → Bool) (xs ys : List A) → length (seamed same xs ys) ≤ length xs + length ys
length-seamed same xs ys =
    let zs = without_repeat same (last xs) ys in
    let h = length-without same (last xs) ys in
    let e = length-append xs zs in
    omega arith
