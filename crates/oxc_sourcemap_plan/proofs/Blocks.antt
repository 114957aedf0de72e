-- Lists in which a block stands for each item of another list; and inputs.
use Rattle.std.proofs.Common.{◌≡◌, refl, sym, ap, subst, ◌∙◌, ℕ, zero, suc, ◌+◌, ◌<◌, true, false}
use Rattle.std.proofs.Common.{cond, List, [], ◌∷◌, ◌++◌, length, take, slice_get, Some, arith}
use Rattle.std.proofs.lemmas.Grind.{flat_map-append}
use Rattle.std.proofs.lemmas.List.{length-append}
use Rattle.std.specs.List.{flat_map}
use Rattle.std.specs.Option.{option_or}
use Rattle.std.specs.Str.{bytes_eq}
use Rattle.oxc_sourcemap_parts.specs.Record.{Text}
use Rattle.oxc_sourcemap_steps.specs.Inputs.{input_for}
use Rattle.oxc_sourcemap_plan.proofs.JoinDecodedMaps.{slice_get-left, slice_get-right}

-- an item of a block, found from where the block begins
pub in_block : {A B : Type 0} (f : A → List B) (xs : List A) (i j : ℕ) (x : A) → slice_get xs i ≡ Some x → j < length (f x) → slice_get (flat_map f xs) (j + length (flat_map f (take i xs))) ≡ slice_get (f x) j
in_block f [] i j x e h = absurd (cc (e))
in_block f (y ∷ ys) zero j x e h =
    let same : y ≡ x = cc (e) in
    ap (slice_get (f y ++ flat_map f ys)) (omega arith) ∙ slice_get-left (f y) (flat_map f ys) j (subst (λ z. j < length (f z)) (sym same) h) ∙ ap (λ z. slice_get (f z) j) same
in_block f (y ∷ ys) (suc i) j x e h =
    let before = flat_map f (take i ys) in
    let l = length-append (f y) before in
    let n : j + length (f y ++ before) ≡ (j + length before) + length (f y) = omega (arith, l) in
    ap (slice_get (f y ++ flat_map f ys)) n ∙ slice_get-right (f y) (flat_map f ys) (j + length before) ∙ in_block f ys i j x e h

pub flat_map-twice : {A B C : Type 0} (f : A → List B) (g : B → List C) (h : A → List C) → ((x : A) → flat_map g (f x) ≡ h x) → (xs : List A) → flat_map g (flat_map f xs) ≡ flat_map h xs
flat_map-twice f g h e [] = refl
flat_map-twice f g h e (x ∷ xs) = flat_map-append g (f x) (flat_map f xs) ∙ ap (λ zs. zs ++ flat_map g (flat_map f xs)) (e x) ∙ ap (λ zs. h x ++ zs) (flat_map-twice f g h e xs)

pub flat_map-same : {A B : Type 0} (f g : A → List B) → ((x : A) → f x ≡ g x) → (xs : List A) → flat_map f xs ≡ flat_map g xs
flat_map-same f g e [] = refl
flat_map-same f g e (x ∷ xs) = ap (λ zs. zs ++ flat_map f xs) (e x) ∙ ap (λ zs. g x ++ zs) (flat_map-same f g e xs)

pub flat_map-self : {A : Type 0} (f : A → List A) → ((x : A) → f x ≡ x ∷ []) → (xs : List A) → flat_map f xs ≡ xs
flat_map-self f e [] = refl
flat_map-self f e (x ∷ xs) = ap (λ ys. ys ++ flat_map f xs) (e x) ∙ ap (λ ys. x ∷ ys) (flat_map-self f e xs)

-- the input for a path among inputs and then others
pub input_for-append : {A : Type 0} (xs ys : List (Text × A)) (path : Text) → input_for (xs ++ ys) path ≡ option_or (input_for xs path) (input_for ys path)
input_for-append [] ys path = refl
input_for-append (x ∷ xs) ys path =
    elim (bytes_eq path x.0) as (λ b. cond b (Some x.1) (input_for (xs ++ ys) path) ≡ option_or (cond b (Some x.1) (input_for xs path)) (input_for ys path)) [
      | true ↦ refl
      | false ↦ input_for-append xs ys path
    ]
