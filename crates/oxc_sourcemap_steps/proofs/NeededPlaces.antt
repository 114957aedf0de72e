-- The sources and names that are needed have a place in the lists of what is needed.
use Rattle.std.proofs.Common.{◌≡◌, ℕ, zero, suc, ◌+◌, Bool, true, false, cond, ◌||◌, List, [], ◌∷◌}
use Rattle.std.proofs.Common.{◌++◌, refl, sym, ap, ◌∙◌, subst, slice_get, Option, Some, None, arith}
use Rattle.std.specs.Bool.{beq, Decides}
use Rattle.std.specs.List.{filter_map, flat_map, list_any, position_from, AllByRecursion}
use Rattle.std.proofs.lemmas.List.Folds.{list_any-append}
use Rattle.oxc_sourcemap_parts.specs.DecodedMap.{DecodedSource, OriginalPosition}
use Rattle.oxc_sourcemap_parts.specs.Record.{Text}
use Rattle.oxc_sourcemap_parts.specs.Texts.{with_texts}
use Rattle.oxc_sourcemap_parts.proofs.Places.{index-stays}
use Rattle.oxc_sourcemap_steps.specs.InheritedNames.{with_inherited}
use Rattle.oxc_sourcemap_steps.proofs.InheritedNames.{IsPlaced, placed-inherited}
use Rattle.oxc_sourcemap_join.proofs.SameToken.{decides_and, decides_as}
use Rattle.oxc_sourcemap_steps.specs.Same.{is_same_source}
use Rattle.oxc_sourcemap_steps.specs.Simplified.{is_same_marked, index_of_marked, listings}
use Rattle.oxc_sourcemap_steps.specs.Simplified.{with_source, with_sources, source_in}
use Rattle.oxc_sourcemap_steps.specs.Simplified.{needed_sources, name_in}
use Rattle.oxc_sourcemap_steps.proofs.Same.{decides_source}

or-left : (a b : Bool) → a ≡ true → (a || b) ≡ true
or-left a b e = rw e refl

or-right : (a b : Bool) → b ≡ true → (a || b) ≡ true
or-right true b e = refl
or-right false b e = e

decides_mark : (a b : Bool) → Decides (beq a b) (a ≡ b)
decides_mark true true = ((λ e. refl), (λ e. refl))
decides_mark true false = ((λ e. cc (e)), (λ e. cc (e)))
decides_mark false true = ((λ e. cc (e)), (λ e. cc (e)))
decides_mark false false = ((λ e. refl), (λ e. refl))

pair-by : {A B : Type 0} (x y : A × B) → x.0 ≡ y.0 → x.1 ≡ y.1 → x ≡ y
pair-by (a, b) (c, d) e f = cc (e, f)

pub decides_marked : (a b : DecodedSource × Bool) → Decides (is_same_marked a b) (a ≡ b)
decides_marked a b =
    decides_as (is_same_marked a b) ((a.0 ≡ b.0) × (a.1 ≡ b.1)) (a ≡ b)
    (λ h. pair-by a b h.0 h.1)
    (λ e. (ap (λ (m : DecodedSource × Bool). m.0) e, ap (λ (m : DecodedSource × Bool). m.1) e))
    (decides_and _ _ _ _ (decides_source a.0 b.0) (decides_mark a.1 b.1))

itself-source : (x : DecodedSource) → is_same_source x x ≡ true
itself-source x = (decides_source x x).1 refl

itself-marked : (x : DecodedSource × Bool) → is_same_marked x x ≡ true
itself-marked x = (decides_marked x x).1 refl

-- ---- sources that are needed
-- a source, if there is one, is in the list
abbrev pub In : List DecodedSource → Option DecodedSource → Type 0
In xs None = Unit {0}
In xs (Some x) = list_any (is_same_source x) xs ≡ true

pub with-source-has : (x : DecodedSource) (xs : List DecodedSource) → list_any (is_same_source x) (with_source xs x) ≡ true
with-source-has x xs =
    elim (list_any (is_same_source x) xs) as (λ b. list_any (is_same_source x) xs ≡ b → list_any (is_same_source x) (cond b xs (xs ++ x ∷ [])) ≡ true) [
      | true ↦ (λ e. e)
      | false ↦ (λ e. list_any-append (is_same_source x) xs (x ∷ []) ∙ or-right (list_any (is_same_source x) xs) _ (or-left (is_same_source x x) false (itself-source x)))
    ] refl

with-source-keeps : (x y : DecodedSource) (xs : List DecodedSource) → list_any (is_same_source x) xs ≡ true → list_any (is_same_source x) (with_source xs y) ≡ true
with-source-keeps x y xs e =
    elim (list_any (is_same_source y) xs) as (λ b. list_any (is_same_source x) (cond b xs (xs ++ y ∷ [])) ≡ true) [
      | true ↦ e
      | false ↦ list_any-append (is_same_source x) xs (y ∷ []) ∙ or-left (list_any (is_same_source x) xs) _ e
    ]

with-sources-keep : (x : DecodedSource) (xs ys : List DecodedSource) → list_any (is_same_source x) xs ≡ true → list_any (is_same_source x) (with_sources xs ys) ≡ true
with-sources-keep x xs [] e = e
with-sources-keep x xs (y ∷ ys) e = with-sources-keep x (with_source xs y) ys (with-source-keeps x y xs e)

all-needed-after : (xs : List DecodedSource) (os : List (Option OriginalPosition)) → AllByRecursion (λ o. In (with_sources xs (filter_map source_in os)) (source_in o)) os
all-needed-after xs [] = tt
all-needed-after xs (None ∷ os) = (tt, all-needed-after xs os)
all-needed-after xs (Some o ∷ os) =
    (with-sources-keep o.source (with_source xs o.source) (filter_map source_in os) (with-source-has o.source xs), all-needed-after (with_source xs o.source) os)

pub all-needed : (os : List (Option OriginalPosition)) → AllByRecursion (λ o. In (needed_sources os) (source_in o)) os
all-needed os = all-needed-after [] os

-- ---- marked sources
-- a marked source has an index in the list
pub record Listed (m : DecodedSource × Bool) (ms : List (DecodedSource × Bool)) : Type 0 where
  pub at : ℕ
  pub is : index_of_marked m ms ≡ Some at
  pub there : slice_get ms at ≡ Some m

record ListedFrom (m : DecodedSource × Bool) (k : ℕ) (ms : List (DecodedSource × Bool)) : Type 0 where
  at : ℕ
  is : position_from (is_same_marked m) k ms ≡ Some (k + at)
  there : slice_get ms at ≡ Some m

place-from : (m : DecodedSource × Bool) (k : ℕ) (ms : List (DecodedSource × Bool)) → list_any (is_same_marked m) ms ≡ true → ListedFrom m k ms
place-from m k [] e = absurd (cc (e))
place-from m k (n ∷ ms) e =
    elim (is_same_marked m n) as (λ b. is_same_marked m n ≡ b → (b || list_any (is_same_marked m) ms) ≡ true → ListedFrom m k (n ∷ ms)) [
      | true ↦ (λ q f. record { at = 0; is = rw q (ap (λ i. Some i) (omega arith)); there = ap (λ x. Some x) (sym ((decides_marked m n).0 q)) })
      | false ↦ (λ q f. let h = place-from m (k + 1) ms f in record { at = suc h.at; is = rw q (h.is ∙ ap (λ i. Some i) (omega arith)); there = h.there })
    ] refl e

pub listed : (m : DecodedSource × Bool) (ms : List (DecodedSource × Bool)) → list_any (is_same_marked m) ms ≡ true → Listed m ms
listed m ms e = let h = place-from m 0 ms e in record { at = h.at; is = h.is ∙ ap (λ i. Some i) (omega arith); there = h.there }

pub at-in : (ms : List (DecodedSource × Bool)) (i : ℕ) (m : DecodedSource × Bool) → slice_get ms i ≡ Some m → list_any (is_same_marked m) ms ≡ true
at-in [] i m e = absurd (cc (e))
at-in (n ∷ ms) zero m e = or-left (is_same_marked m n) _ (let q : m ≡ n = cc (e) in (decides_marked m n).1 q)
at-in (n ∷ ms) (suc i) m e = or-right (is_same_marked m n) _ (at-in ms i m e)

-- a source is listed with a mark that it is listed with
listing : (marked : List (DecodedSource × Bool)) (x : DecodedSource) (b : Bool) → list_any (is_same_marked (x, b)) marked ≡ true → list_any (is_same_marked (x, b)) (listings marked x) ≡ true
listing marked x false e = rw e (or-left (is_same_marked (x, false) (x, false)) _ (itself-marked (x, false)))
listing marked x true e =
    let here : list_any (is_same_marked (x, true)) ((x, true) ∷ []) ≡ true = or-left (is_same_marked (x, true) (x, true)) _ (itself-marked (x, true)) in
    elim (list_any (is_same_marked (x, false)) marked) as (λ c. list_any (is_same_marked (x, true)) (cond c ((x, false) ∷ cond (list_any (is_same_marked (x, true)) marked) ((x, true) ∷ []) []) (cond (list_any (is_same_marked (x, true)) marked) ((x, true) ∷ []) [])) ≡ true) [
      | true ↦ rw e (or-right (is_same_marked (x, true) (x, false)) _ here)
      | false ↦ rw e here
    ]

listed-in : (marked : List (DecodedSource × Bool)) (xs : List DecodedSource) (x : DecodedSource) (b : Bool) → list_any (is_same_marked (x, b)) marked ≡ true → list_any (is_same_source x) xs ≡ true
    → list_any (is_same_marked (x, b)) (flat_map (listings marked) xs) ≡ true
listed-in marked [] x b m e = absurd (cc (e))
listed-in marked (y ∷ ys) x b m e =
    list_any-append (is_same_marked (x, b)) (listings marked y) (flat_map (listings marked) ys)
    ∙ elim (is_same_source x y) as (λ c. is_same_source x y ≡ c → (c || list_any (is_same_source x) ys) ≡ true
    → (list_any (is_same_marked (x, b)) (listings marked y) || list_any (is_same_marked (x, b)) (flat_map (listings marked) ys)) ≡ true) [
      | true ↦ (λ q f. or-left _ _ (subst (λ z. list_any (is_same_marked (x, b)) (listings marked z) ≡ true) ((decides_source x y).0 q) (listing marked x b m)))
      | false ↦ (λ q f. or-right _ _ (listed-in marked ys x b m f))
    ] refl e

pub is-listed : (marked : List (DecodedSource × Bool)) (xs : List DecodedSource) (m : DecodedSource × Bool) → list_any (is_same_marked m) marked ≡ true → list_any (is_same_source m.0) xs ≡ true
    → Listed m (flat_map (listings marked) xs)
is-listed marked xs (x, b) m e = listed (x, b) _ (listed-in marked xs x b m e)

-- ---- names that are needed
placed-more : (names more : List Text) (o : Option Text) → IsPlaced names o → IsPlaced (with_texts names more) o
placed-more names more None p = tt
placed-more names more (Some x) p = (p.0, index-stays x p.0 names more p.1)

pub named-cons-of : (n : Option Text) (names : List Text) (o : Option OriginalPosition) (os : List (Option OriginalPosition)) → name_in o ≡ n
    → with_texts names (filter_map name_in (o ∷ os)) ≡ with_texts (with_inherited names n) (filter_map name_in os)
named-cons-of None names o os e = rw e
named-cons-of (Some x) names o os e = rw e

all-named-after : (names : List Text) (os : List (Option OriginalPosition)) → AllByRecursion (λ o. IsPlaced (with_texts names (filter_map name_in os)) (name_in o)) os
all-named-after names [] = tt
all-named-after names (o ∷ os) =
    let n = name_in o in
    subst (λ ns. AllByRecursion (λ (o : Option OriginalPosition). IsPlaced ns (name_in o)) (o ∷ os)) (sym (named-cons-of n names o os refl))
    (placed-more (with_inherited names n) (filter_map name_in os) n (placed-inherited names n), all-named-after (with_inherited names n) os)

pub all-named : (os : List (Option OriginalPosition)) → AllByRecursion (λ o. IsPlaced (with_texts [] (filter_map name_in os)) (name_in o)) os
all-named os = all-named-after [] os
