-- A buffer that is filled as far as there is room.
use Rattle.std.proofs.Common.{◌≡◌, ℕ, inl, inr, List, ◌++◌, length, map, take, drop, min, sym, ap}
use Rattle.std.proofs.Common.{◌∙◌, arith}
use Rattle.std.proofs.lemmas.List.{take-append-drop, take-map, take_min, drop_all, length-map}
use Rattle.std.proofs.lemmas.Bool.{cases_lt}
use Rattle.oxc_sourcemap_c.specs.Listed.{filled}

back_is : {B : Type 0} (old : List B) (n i : ℕ) → i ≡ min n (length old) → drop i old ≡ drop n old
back_is old n i e = elim (cases_lt n (length old)) [
  | inl h ↦ ap (λ k. drop k old) (omega arith)
  | inr h ↦ drop_all i old (omega arith) ∙ sym (drop_all n old h)
]

pub buffer_filled : {A B : Type 0} (f : A → B) (xs : List A) (old new : List B) (i : ℕ) → i ≡ min (length xs) (length old) → take i new ≡ map f (take i xs) → drop i new ≡ drop i old
    → new ≡ filled (map f xs) old
buffer_filled f xs old new i e front back =
    let n : length (map f xs) ≡ length xs = length-map xs f in
    let m : i ≡ min (length (map f xs)) (length old) = omega arith in
    let k : i ≡ min (length old) (length (map f xs)) = omega arith in
    sym (take-append-drop i new) ∙ ap (λ ys. ys ++ drop i new) (front ∙ sym (take-map f i xs) ∙ ap (λ j. take j (map f xs)) k ∙ take_min (length old) (map f xs))
    ∙ ap (λ ys. take (length old) (map f xs) ++ ys) (back ∙ back_is old (length (map f xs)) i m)
