-- A function to which an item twice in a row counts once is not changed by dropping repeats.
use Rattle.std.proofs.Common.{◌≡◌, ℕ, Bool, true, false, cond, List, [], ◌∷◌, ◌++◌, map, refl, sym}
use Rattle.std.proofs.Common.{ap, ◌∙◌, append_assoc, max, arith, ◌&&◌, ◌||◌, ◌==◌, nat_lt, nat_le}
use Rattle.std.proofs.Common.{Option, Some, None}
use Rattle.std.specs.List.{filter, last_or}
use Rattle.std.specs.Option.{option_or}
use Rattle.std.specs.Bool.{Decides}
use Rattle.std.proofs.lemmas.Bool.Decides.{nat_tests}
use Rattle.std.proofs.lemmas.List.{map-append}
use Rattle.std.proofs.lemmas.List.Elements.{filter-append}
use Rattle.oxc_sourcemap_parts.specs.Sorted.{may_precede, is_sorted_by}
use Rattle.oxc_sourcemap_lookup.specs.Lookup.{first, greatest, not_past, in_column, at, clamped_at}
use Rattle.oxc_sourcemap_lookup.specs.Lookup.{pick, clamped_pick}
use Rattle.oxc_sourcemap_tokens.specs.Token.{last}
use Rattle.oxc_sourcemap_plan.specs.Repeats.{without_repeats_after, without_repeats}

-- an item twice in a row counts once
abbrev pub IsBlind : {A B : Type 0} → (List A → B) → Type 0
IsBlind {A = A} F = (ps : List A) (e : A) (xs : List A) → F (ps ++ e ∷ e ∷ xs) ≡ F (ps ++ e ∷ xs)

module _ {A : Type 0} (same : A → A → Bool) (decides : (x y : A) → Decides (same x y) (x ≡ y)) where
  unseen_after : {B : Type 0} (F : List A → B) → IsBlind F → (e : A) (xs : List A) → F (e ∷ without_repeats_after same e xs) ≡ F (e ∷ xs)
  unseen_after F l e [] = refl
  unseen_after F l e (x ∷ xs) =
      elim (same e x) as (λ b. same e x ≡ b → F (e ∷ cond b (without_repeats_after same x xs) (x ∷ without_repeats_after same x xs)) ≡ F (e ∷ x ∷ xs)) [
        | true ↦ (λ q. ap (λ y. F (e ∷ without_repeats_after same y xs)) (sym ((decides e x).0 q)) ∙ unseen_after F l e xs ∙ sym (l [] e xs) ∙ ap (λ y. F (e ∷ y ∷ xs)) ((decides e x).0 q))
        | false ↦ (λ q. unseen_after (λ ys. F (e ∷ ys)) (λ ps. l (e ∷ ps)) x xs)
      ] refl

  -- a function that is blind to repeats is not changed by dropping them
  pub unseen : {B : Type 0} (F : List A → B) → IsBlind F → (xs : List A) → F (without_repeats same xs) ≡ F xs
  unseen F l [] = refl
  unseen F l (x ∷ xs) = unseen_after F l x xs

  pub up_to_repeats_by : {B : Type 0} (F : List A → B) → IsBlind F → (xs ys : List A) → without_repeats same xs ≡ without_repeats same ys → F xs ≡ F ys
  up_to_repeats_by F l xs ys e = sym (unseen F l xs) ∙ ap F e ∙ unseen F l ys

  self : (e : A) → same e e ≡ true
  self e = (decides e e).1 refl

  blind_after : (p : A) → IsBlind (λ zs. without_repeats_after same p zs)
  blind_after p [] e xs = rw (self e)
  blind_after p (q ∷ ps) e xs =
      elim (same p q) as (λ b. cond b (without_repeats_after same q (ps ++ e ∷ e ∷ xs)) (q ∷ without_repeats_after same q (ps ++ e ∷ e ∷ xs)) ≡ cond b (without_repeats_after same q (ps ++ e ∷ xs)) (q ∷ without_repeats_after same q (ps ++ e ∷ xs))) [
        | true ↦ blind_after q ps e xs
        | false ↦ ap (λ zs. q ∷ zs) (blind_after q ps e xs)
      ]

  pub blind_without_repeats : IsBlind (without_repeats same)
  blind_without_repeats [] e xs = rw (self e)
  blind_without_repeats (p ∷ ps) e xs = ap (λ zs. p ∷ zs) (blind_after p ps e xs)

  pub blind_append : (ys : List A) → IsBlind (λ zs. without_repeats same (zs ++ ys))
  blind_append ys ps e xs = ap (without_repeats same) (append_assoc ps (e ∷ e ∷ xs) ys) ∙ blind_without_repeats ps e (xs ++ ys) ∙ ap (without_repeats same) (sym (append_assoc ps (e ∷ xs) ys))

  pub blind_after_list : (ys : List A) → IsBlind (λ zs. without_repeats same (ys ++ zs))
  blind_after_list ys ps e xs = ap (without_repeats same) (sym (append_assoc ys ps (e ∷ e ∷ xs))) ∙ blind_without_repeats (ys ++ ps) e xs ∙ ap (without_repeats same) (append_assoc ys ps (e ∷ xs))

  pub blind_map : {C : Type 0} (f : C → A) → IsBlind (λ zs. without_repeats same (map f zs))
  blind_map f ps e xs = ap (without_repeats same) (map-append f ps (e ∷ e ∷ xs)) ∙ blind_without_repeats (map f ps) (f e) (map f xs) ∙ ap (without_repeats same) (sym (map-append f ps (e ∷ xs)))

  pub blind_filter : (p : A → Bool) → IsBlind (λ zs. without_repeats same (filter p zs))
  blind_filter p ps e xs =
      ap (without_repeats same) (filter-append p ps (e ∷ e ∷ xs))
      ∙ elim (p e) as (λ b. without_repeats same (filter p ps ++ cond b (e ∷ cond b (e ∷ filter p xs) (filter p xs)) (cond b (e ∷ filter p xs) (filter p xs))) ≡ without_repeats same (filter p ps ++ cond b (e ∷ filter p xs) (filter p xs))) [
        | true ↦ blind_without_repeats (filter p ps) e (filter p xs)
        | false ↦ refl
      ]
      ∙ ap (without_repeats same) (sym (filter-append p ps (e ∷ xs)))

  pub without_repeats_append : (xs xs' ys ys' : List A) → without_repeats same xs ≡ without_repeats same xs' → without_repeats same ys ≡ without_repeats same ys' → without_repeats same (xs ++ ys) ≡ without_repeats same (xs' ++ ys')
  without_repeats_append xs xs' ys ys' e f = up_to_repeats_by (λ zs. without_repeats same (zs ++ ys)) (blind_append ys) xs xs' e ∙ up_to_repeats_by (λ zs. without_repeats same (xs' ++ zs)) (blind_after_list xs') ys ys' f

pub blind_first : {A : Type 0} → IsBlind {A = A} (λ zs. first zs)
blind_first [] e xs = refl
blind_first (p ∷ ps) e xs = refl

blind_last_or : {A : Type 0} (o : Option A) → IsBlind {A = A} (λ zs. last_or o zs)
blind_last_or o [] e xs = refl
blind_last_or o (q ∷ ps) e xs = blind_last_or (Some q) ps e xs

pub blind_last : {A : Type 0} → IsBlind {A = A} (λ zs. last zs)
blind_last ps e xs = blind_last_or None ps e xs

max-twice : (a b : ℕ) → max a (max a b) ≡ max a b
max-twice a b = omega arith

pub blind_greatest : {A : Type 0} (column : A → ℕ) → IsBlind (greatest column)
blind_greatest column [] e xs = max-twice (column e) (greatest column xs)
blind_greatest column (p ∷ ps) e xs = ap (max (column p)) (blind_greatest column ps e xs)

before-itself : (a b : ℕ) → (nat_lt a a || (a == a && nat_le b b)) ≡ true
before-itself a b = grind (arith, nat_tests)

pub blind_sorted : {A : Type 0} (line column : A → ℕ) → IsBlind (is_sorted_by line column)
blind_sorted line column [] e xs = ap (λ b. b && is_sorted_by line column (e ∷ xs)) (before-itself (line e) (column e))
blind_sorted line column (p ∷ []) e xs = ap (λ b. may_precede line column p e && (b && is_sorted_by line column (e ∷ xs))) (before-itself (line e) (column e))
blind_sorted line column (p ∷ q ∷ ps) e xs = ap (λ b. may_precede line column p q && b) (blind_sorted line column (q ∷ ps) e xs)

-- looking up is not changed by dropping repeats
module _ {A : Type 0} (same : A → A → Bool) (decides : (x y : A) → Decides (same x y) (x ≡ y)) (line column : A → ℕ) (xs ys : List A) where
  pub filter_up_to_repeats : (p : A → Bool) → without_repeats same xs ≡ without_repeats same ys → without_repeats same (filter p xs) ≡ without_repeats same (filter p ys)
  filter_up_to_repeats p = up_to_repeats_by same decides (λ zs. without_repeats same (filter p zs)) (blind_filter same decides p) xs ys

module _ {A : Type 0} (same : A → A → Bool) (decides : (x y : A) → Decides (same x y) (x ≡ y)) (line column : A → ℕ) where
  near_up_to_repeats : (xs ys : List A) (col : ℕ) → without_repeats same xs ≡ without_repeats same ys → (b : ℕ) → without_repeats same (in_column column b xs) ≡ without_repeats same (in_column column b ys)
  near_up_to_repeats xs ys col e b = filter_up_to_repeats same decides line column xs ys (λ x. column x == b) e

  pub at_up_to_repeats : (xs ys : List A) (col : ℕ) → without_repeats same xs ≡ without_repeats same ys → at column xs col ≡ at column ys col
  at_up_to_repeats xs ys col e =
      let r : without_repeats same (not_past column col xs) ≡ without_repeats same (not_past column col ys) = filter_up_to_repeats same decides line column xs ys (λ x. nat_le (column x) col) e in
      let g : greatest column (not_past column col xs) ≡ greatest column (not_past column col ys) = up_to_repeats_by same decides (greatest column) (blind_greatest column) (not_past column col xs) (not_past column col ys) r in
      let n : (b : ℕ) → without_repeats same (in_column column b (not_past column col xs)) ≡ without_repeats same (in_column column b (not_past column col ys)) = near_up_to_repeats (not_past column col xs) (not_past column col ys) col r in
      let f : (b : ℕ) → first (in_column column b (not_past column col xs)) ≡ first (in_column column b (not_past column col ys)) = λ b. up_to_repeats_by same decides (λ zs. first zs) blind_first _ _ (n b) in
      let l : (b : ℕ) → last (in_column column b (not_past column col xs)) ≡ last (in_column column b (not_past column col ys)) = λ b. up_to_repeats_by same decides (λ zs. last zs) blind_last _ _ (n b) in
      let p = λ (b : ℕ). ap (λ o. cond (b == col) o (last (in_column column b (not_past column col xs)))) (f b) ∙ ap (λ o. cond (b == col) (first (in_column column b (not_past column col ys))) o) (l b) in
      p (greatest column (not_past column col xs)) ∙ ap (λ (b : ℕ). cond (b == col) (first (in_column column b (not_past column col ys))) (last (in_column column b (not_past column col ys)))) g

  pub clamped_at_up_to_repeats : (xs ys : List A) (col : ℕ) → without_repeats same xs ≡ without_repeats same ys → clamped_at column xs col ≡ clamped_at column ys col
  clamped_at_up_to_repeats xs ys col e = ap (λ o. option_or o (first xs)) (at_up_to_repeats xs ys col e) ∙ ap (option_or (at column ys col)) (up_to_repeats_by same decides (λ zs. first zs) blind_first xs ys e)

  pub pick_up_to_repeats : (xs ys : List A) (n col : ℕ) → without_repeats same xs ≡ without_repeats same ys → pick line column xs n col ≡ pick line column ys n col
  pick_up_to_repeats xs ys n col e = at_up_to_repeats _ _ col (filter_up_to_repeats same decides line column xs ys (λ x. line x == n) e)

  pub clamped_pick_up_to_repeats : (xs ys : List A) (n col : ℕ) → without_repeats same xs ≡ without_repeats same ys → clamped_pick line column xs n col ≡ clamped_pick line column ys n col
  clamped_pick_up_to_repeats xs ys n col e = clamped_at_up_to_repeats _ _ col (filter_up_to_repeats same decides line column xs ys (λ x. line x == n) e)

  pub sorted_up_to_repeats : (xs ys : List A) → without_repeats same xs ≡ without_repeats same ys → is_sorted_by line column xs ≡ is_sorted_by line column ys
  sorted_up_to_repeats xs ys e = up_to_repeats_by same decides (is_sorted_by line column) (blind_sorted line column) xs ys e
