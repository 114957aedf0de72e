-- A simplified map has no more sources than the map: each that it lists is one of these, with its mark.
use Rattle.std.proofs.Common.{◌≡◌, ℕ, suc, ◌+◌, ◌≤◌, Bool, true, false, cond, ◌&&◌, ◌||◌, List, []}
use Rattle.std.proofs.Common.{◌∷◌, ◌++◌, length, refl, sym, ap, ◌∙◌, arith, Option}
use Rattle.std.specs.Bool.{beq}
use Rattle.std.specs.List.{filter_map, flat_map, list_any}
use Rattle.std.proofs.lemmas.Grind.{flat_map-append}
use Rattle.std.proofs.lemmas.List.{length-append}
use Rattle.std.proofs.lemmas.List.Folds.{list_any-append}
use Rattle.oxc_sourcemap_parts.specs.DecodedMap.{DecodedSource, OriginalPosition}
use Rattle.oxc_sourcemap_steps.specs.Same.{is_same_source}
use Rattle.oxc_sourcemap_steps.specs.Simplified.{is_same_marked, listings, with_source}
use Rattle.oxc_sourcemap_steps.specs.Simplified.{with_sources, source_in, simple_sources}
use Rattle.oxc_sourcemap_steps.proofs.Same.{decides_source}

-- how many items pass a test
abbrev count : {A : Type 0} → (A → Bool) → List A → ℕ
count test [] = 0
count test (x ∷ xs) = cond (test x) (suc (count test xs)) (count test xs)

count-most : {A : Type 0} (test : A → Bool) (xs : List A) → count test xs ≤ length xs
count-most test [] = omega arith
count-most test (x ∷ xs) = let h = count-most test xs in elim (test x) as (λ b. cond b (suc (count test xs)) (count test xs) ≤ length (x ∷ xs)) [ true ↦ omega (arith, h) | false ↦ omega (arith, h) ]

any-counts : {A : Type 0} (test : A → Bool) (xs : List A) → list_any test xs ≡ true → 1 ≤ count test xs
any-counts test [] e = absurd (cc (e))
any-counts test (x ∷ xs) e =
    elim (test x) as (λ b. (b || list_any test xs) ≡ true → 1 ≤ cond b (suc (count test xs)) (count test xs)) [
      | true ↦ (λ f. omega arith)
      | false ↦ (λ f. any-counts test xs f)
    ] e

-- those that are this source
abbrev is_of : DecodedSource → DecodedSource × Bool → Bool
is_of x m = is_same_source x m.0

-- those that are none of these sources
abbrev is_new : List DecodedSource → DecodedSource × Bool → Bool
is_new xs m = cond (list_any (is_same_source m.0) xs) false true

one-more : (a b : Bool) (k l n : ℕ) → k + l ≤ n → cond (a && beq false b) (suc k) k + cond (a && beq true b) (suc l) l ≤ cond a (suc n) n
one-more true true k l n h = omega (arith, h)
one-more true false k l n h = omega (arith, h)
one-more false b k l n h = h

both-marks : (x : DecodedSource) (ms : List (DecodedSource × Bool)) → count (is_same_marked (x, false)) ms + count (is_same_marked (x, true)) ms ≤ count (is_of x) ms
both-marks x [] = omega arith
both-marks x (m ∷ ms) = one-more (is_same_source x m.0) m.1 _ _ _ (both-marks x ms)

listed-by : (a b : Bool) (x : DecodedSource) (k l n : ℕ) → (a ≡ true → 1 ≤ k) → (b ≡ true → 1 ≤ l) → k + l ≤ n
    → length {A = DecodedSource × Bool} (cond a ((x, false) ∷ cond b ((x, true) ∷ []) []) (cond b ((x, true) ∷ []) [])) ≤ n
listed-by true true x k l n f g h = let p = f refl in let q = g refl in omega (arith, p, q, h)
listed-by true false x k l n f g h = let p = f refl in omega (arith, p, h)
listed-by false true x k l n f g h = let q = g refl in omega (arith, q, h)
listed-by false false x k l n f g h = omega arith

-- a source is listed no more often than before
listings-most : (marked : List (DecodedSource × Bool)) (x : DecodedSource) → length (listings marked x) ≤ count (is_of x) marked
listings-most marked x =
    listed-by (list_any (is_same_marked (x, false)) marked) (list_any (is_same_marked (x, true)) marked) x _ _ _
    (any-counts (is_same_marked (x, false)) marked) (any-counts (is_same_marked (x, true)) marked) (both-marks x marked)

or-left : (a b : Bool) → a ≡ true → (a || b) ≡ true
or-left a b e = rw e refl

-- one item more, which is this source, or one of the others, or new
item-by : (a b c : Bool) (k l n : ℕ) → (a ≡ true → (b ≡ true) × (c ≡ false)) → (c ≡ true → b ≡ true) → k + l ≤ n → cond a (suc k) k + cond (cond b false true) (suc l) l ≤ cond (cond c false true) (suc n) n
item-by true true false k l n f g h = omega (arith, h)
item-by true true true k l n f g h = let p = (f refl).1 in cc (p)
item-by true false c k l n f g h = let p = (f refl).0 in cc (p)
item-by false true true k l n f g h = omega (arith, h)
item-by false true false k l n f g h = omega (arith, h)
item-by false false false k l n f g h = omega (arith, h)
item-by false false true k l n f g h = let p = g refl in cc (p)

-- with a source that is not among these, as many fewer are new as are this source
new-less : (x : DecodedSource) (xs : List DecodedSource) (ms : List (DecodedSource × Bool)) → list_any (is_same_source x) xs ≡ false
    → count (is_of x) ms + count (is_new (xs ++ x ∷ [])) ms ≤ count (is_new xs) ms
new-less x xs [] e = omega arith
new-less x xs (m ∷ ms) e =
    let more = list_any-append (is_same_source m.0) xs (x ∷ []) in
    item-by (is_same_source x m.0) (list_any (is_same_source m.0) (xs ++ x ∷ [])) (list_any (is_same_source m.0) xs) _ _ _
    (λ a.
    let same : x ≡ m.0 = (decides_source x m.0).0 a in
    let old : list_any (is_same_source m.0) xs ≡ false = ap (λ y. list_any (is_same_source y) xs) (sym same) ∙ e in
    let itself : is_same_source m.0 x ≡ true = (decides_source m.0 x).1 (sym same) in
    (more ∙ rw (old, itself) refl, old))
    (λ c. more ∙ or-left _ _ c)
    (new-less x xs ms e)

module _ (marked : List (DecodedSource × Bool)) where
  abbrev total : List DecodedSource → ℕ
  total xs = length (flat_map (listings marked) xs) + count (is_new xs) marked

  one-source : (x : DecodedSource) (xs : List DecodedSource) → total (with_source xs x) ≤ total xs
  one-source x xs =
      elim (list_any (is_same_source x) xs) as (λ b. list_any (is_same_source x) xs ≡ b → total (cond b xs (xs ++ x ∷ [])) ≤ total xs) [
        | true ↦ (λ e. omega arith)
        | false ↦ (λ e.
            let a = ap length (flat_map-append (listings marked) xs (x ∷ [])) ∙ length-append (flat_map (listings marked) xs) (flat_map (listings marked) (x ∷ [])) in
            let b = length-append (listings marked x) [] in
            let c = listings-most marked x in
            let d = new-less x xs marked e in
            omega (arith, a, b, c, d))
      ] refl

  all-sources : (xs ys : List DecodedSource) → total (with_sources xs ys) ≤ total xs
  all-sources xs [] = omega arith
  all-sources xs (y ∷ ys) = let a = all-sources (with_source xs y) ys in let b = one-source y xs in omega (arith, a, b)

  pub sources-most : (os : List (Option OriginalPosition)) → length (simple_sources marked os) ≤ length marked
  sources-most os =
      let a = all-sources [] (filter_map source_in os) in
      let b = count-most (is_new []) marked in
      omega (arith, a, b)
