-- An item that stands twice in a row counts once: simplifying gives the same.
use Rattle.std.proofs.Common.{◌≡◌, ℕ, Bool, true, false, cond, ◌&&◌, ◌==◌, List, [], ◌∷◌, ◌++◌, map}
use Rattle.std.proofs.Common.{refl, sym, ap, ◌∙◌, subst, Option, Some, None, arith}
use Rattle.std.specs.List.{filter_map}
use Rattle.std.proofs.lemmas.Bool.Decides.{nat_tests}
use Rattle.std.proofs.lemmas.List.{map-append}
use Rattle.std.proofs.lemmas.List.Elements.{filter_map-append}
use Rattle.oxc_sourcemap_parts.specs.DecodedMap.{DecodedSource, OriginalPosition, DecodedMapping}
use Rattle.oxc_sourcemap_parts.specs.DecodedMap.{mapping_line, mapping_column}
use Rattle.oxc_sourcemap_steps.specs.Same.{point_alike}
use Rattle.oxc_sourcemap_steps.specs.Simple.{are_together, is_further, is_followed, found_after}
use Rattle.oxc_sourcemap_steps.specs.Simple.{is_repeat, is_after_repeat, kept_after}
use Rattle.oxc_sourcemap_steps.specs.Simplified.{at_next_column, found_mappings, simple_mappings}
use Rattle.oxc_sourcemap_steps.specs.Simplified.{with_source, with_sources, source_in}
use Rattle.oxc_sourcemap_steps.specs.Simplified.{needed_sources}
use Rattle.oxc_sourcemap_steps.proofs.SimplifyKeeping.{Apart}
use Rattle.oxc_sourcemap_steps.proofs.NeededPlaces.{with-source-has}
use Rattle.oxc_sourcemap_steps.proofs.Order.{found-is-apart}
use Rattle.oxc_sourcemap_steps.proofs.Same.{decides_originals}

-- two lists are equal, or the first has an item twice in a row where the second has it once
pub data Twice {A : Type 0} (us vs : List A) : Type 0 where
  equal : us ≡ vs → Twice us vs
  double : (front : List A) (x : A) (after : List A) → us ≡ front ++ x ∷ x ∷ after → vs ≡ front ++ x ∷ after → Twice us vs

with-first : {A : Type 0} (y : A) (us vs : List A) → Twice us vs → Twice (y ∷ us) (y ∷ vs)
with-first y us vs h = elim h [
  | equal e ↦ equal (ap (λ l. y ∷ l) e)
  | double front x after e f ↦ double (y ∷ front) x after (ap (λ l. y ∷ l) e) (ap (λ l. y ∷ l) f)
]

unless-first : {A : Type 0} (b : Bool) (y : A) (us vs : List A) → Twice us vs → Twice (cond b us (y ∷ us)) (cond b vs (y ∷ vs))
unless-first true y us vs h = h
unless-first false y us vs h = with-first y us vs h

module _ {A : Type 0} (line column : A → ℕ) where
  with-itself : (x : A) → are_together line column x x ≡ true
  with-itself x = grind (arith, nat_tests)

  close-by : (x : A) (xs : List A) → is_followed line column x (x ∷ xs) ≡ true
  close-by x xs = grind (arith, nat_tests)

  -- what is found depends on the nearest item before alone
  found-far : (x : A) (before other xs : List A) → found_after line column (x ∷ before) xs ≡ found_after line column (x ∷ other) xs
  found-far x before other [] = refl
  found-far x before other (y ∷ ys) =
      ap (λ l. cond (are_together line column x y && is_followed line column y ys) l (y ∷ l)) (found-far y (x ∷ before) (x ∷ other) ys)

  -- with the tests at an item that stands twice
  twice-by : (a c : Bool) (x : A) (us vs : List A) → us ≡ vs → Twice (cond (a && true) (cond (true && c) us (x ∷ us)) (x ∷ cond (true && c) us (x ∷ us))) (cond (a && c) vs (x ∷ vs))
  twice-by true true x us vs e = equal e
  twice-by true false x us vs e = equal (ap (λ l. x ∷ l) e)
  twice-by false true x us vs e = equal (ap (λ l. x ∷ l) e)
  twice-by false false x us vs e = double [] x vs (ap (λ l. x ∷ x ∷ l) e) refl

  followed-same : (y x : A) (front after : List A) → is_followed line column y (front ++ x ∷ x ∷ after) ≡ is_followed line column y (front ++ x ∷ after)
  followed-same y x [] after = refl
  followed-same y x (z ∷ front) after = refl

  pub found-twice : (before front : List A) (x : A) (after : List A) → Twice (found_after line column before (front ++ x ∷ x ∷ after)) (found_after line column before (front ++ x ∷ after))
  found-twice before [] x after =
      let us = found_after line column (x ∷ x ∷ before) after in
      let a = is_further line column before x in
      let c = is_followed line column x after in
      subst (λ b. Twice (cond (a && b) (found_after line column (x ∷ before) (x ∷ after)) (x ∷ found_after line column (x ∷ before) (x ∷ after))) (found_after line column before (x ∷ after))) (sym (close-by x after))
      (subst (λ b. Twice (cond (a && true) (cond (b && c) us (x ∷ us)) (x ∷ cond (b && c) us (x ∷ us))) (found_after line column before (x ∷ after))) (sym (with-itself x))
      (twice-by a c x us (found_after line column (x ∷ before) after) (found-far x (x ∷ before) before after)))
  found-twice before (y ∷ front) x after =
      subst (λ b. Twice (cond (is_further line column before y && b) (found_after line column (y ∷ before) (front ++ x ∷ x ∷ after)) (y ∷ found_after line column (y ∷ before) (front ++ x ∷ x ∷ after))) (found_after line column before (y ∷ front ++ x ∷ after)))
      (sym (followed-same y x front after))
      (unless-first (is_further line column before y && is_followed line column y (front ++ x ∷ after)) y _ _ (found-twice (y ∷ before) front x after))

  module _ (same : A → A → Bool) (move : A → A) (itself : (x : A) → same x x ≡ true) where
    abbrev keep : List A → List A → List A
    keep before xs = kept_after line same move (is_after_repeat line column same) before xs

    -- what is kept depends on the two nearest items before alone
    keep-far : (y x : A) (before other xs : List A) → keep (y ∷ x ∷ before) xs ≡ keep (y ∷ x ∷ other) xs
    keep-far y x before other [] = refl
    keep-far y x before other (z ∷ zs) =
        ap (λ l. cond (is_repeat line same (y ∷ x ∷ before) z) [] ((cond (is_after_repeat line column same (y ∷ x ∷ before) z) (move z) z) ∷ []) ++ l) (keep-far z y (x ∷ before) (x ∷ other) zs)

    -- and of the nearest alone if the next item is elsewhere
    keep-apart : (x : A) (before other xs : List A) → is_followed line column x xs ≡ false → keep (x ∷ before) xs ≡ keep (x ∷ other) xs
    keep-apart x before other [] f = refl
    keep-apart x before other (z ∷ zs) f =
        let off : are_together line column x z ≡ false = grind (arith, nat_tests, f) in
        rw off (ap (λ l. cond (is_repeat line same (x ∷ other) z) [] (z ∷ []) ++ l) (keep-far z x before other zs))

    repeats-itself : (x : A) → (line x == line x && same x x) ≡ true
    repeats-itself x = let e = itself x in grind (arith, nat_tests, e)

    pub keep-twice : (before front : List A) (x : A) (after : List A) → Apart line column before (front ++ x ∷ x ∷ after) → keep before (front ++ x ∷ x ∷ after) ≡ keep before (front ++ x ∷ after)
    keep-twice before [] x after a =
        ap (λ b. cond (is_repeat line same before x) [] ((cond (is_after_repeat line column same before x) (move x) x) ∷ []) ++ (cond b [] ((cond (is_after_repeat line column same (x ∷ before) x) (move x) x) ∷ []) ++ keep (x ∷ x ∷ before) after)) (repeats-itself x)
        ∙ ap (λ l. cond (is_repeat line same before x) [] ((cond (is_after_repeat line column same before x) (move x) x) ∷ []) ++ l) (keep-apart x (x ∷ before) before after (a.1.0 (with-itself x)))
    keep-twice before (y ∷ front) x after a =
        ap (λ l. cond (is_repeat line same before y) [] ((cond (is_after_repeat line column same before y) (move y) y) ∷ []) ++ l) (keep-twice (y ∷ before) front x after a.1)

    pub simple-twice : (us vs : List A) → Apart line column [] us → Twice us vs → keep [] us ≡ keep [] vs
    simple-twice us vs a h = elim h [
      | equal e ↦ ap (keep []) e
      | double front x after e f ↦ ap (keep []) e ∙ keep-twice [] front x after (subst (Apart line column []) e a) ∙ ap (keep []) (sym f)
    ]

-- ---- mappings
points-alike : (e : DecodedMapping) → point_alike e e ≡ true
points-alike e = (decides_originals e e).1 refl

-- the simple mappings are the same
pub mappings-twice : (front : List DecodedMapping) (e : DecodedMapping) (after : List DecodedMapping) → simple_mappings (front ++ e ∷ e ∷ after) ≡ simple_mappings (front ++ e ∷ after)
mappings-twice front e after =
    simple-twice mapping_line mapping_column point_alike at_next_column points-alike (found_mappings (front ++ e ∷ e ∷ after)) (found_mappings (front ++ e ∷ after))
    (found-is-apart mapping_line mapping_column (front ++ e ∷ e ∷ after)) (found-twice mapping_line mapping_column [] front e after)

-- ---- sources
with-sources-append : (xs ys zs : List DecodedSource) → with_sources xs (ys ++ zs) ≡ with_sources (with_sources xs ys) zs
with-sources-append xs [] zs = refl
with-sources-append xs (y ∷ ys) zs = with-sources-append (with_source xs y) ys zs

with-source-twice : (x : DecodedSource) (xs : List DecodedSource) → with_source (with_source xs x) x ≡ with_source xs x
with-source-twice x xs = ap (λ b. cond b (with_source xs x) (with_source xs x ++ x ∷ [])) (with-source-has x xs)

sources-after : (xs : List DecodedSource) (o : Option OriginalPosition) (os : List (Option OriginalPosition)) → with_sources xs (filter_map source_in (o ∷ o ∷ os)) ≡ with_sources xs (filter_map source_in (o ∷ os))
sources-after xs None os = refl
sources-after xs (Some o) os = ap (λ l. with_sources l (filter_map source_in os)) (with-source-twice o.source xs)

needed-twice : (front : List (Option OriginalPosition)) (o : Option OriginalPosition) (after : List (Option OriginalPosition)) → needed_sources (front ++ o ∷ o ∷ after) ≡ needed_sources (front ++ o ∷ after)
needed-twice front o after =
    ap (with_sources []) (filter_map-append source_in front (o ∷ o ∷ after)) ∙ with-sources-append [] (filter_map source_in front) (filter_map source_in (o ∷ o ∷ after))
    ∙ sources-after (with_sources [] (filter_map source_in front)) o after
    ∙ sym (ap (with_sources []) (filter_map-append source_in front (o ∷ after)) ∙ with-sources-append [] (filter_map source_in front) (filter_map source_in (o ∷ after)))

-- the needed sources are the same
pub sources-twice : (front : List DecodedMapping) (e : DecodedMapping) (after : List DecodedMapping)
    → needed_sources (map (λ e. e.original) (found_mappings (front ++ e ∷ e ∷ after))) ≡ needed_sources (map (λ e. e.original) (found_mappings (front ++ e ∷ after)))
sources-twice front e after = elim (found-twice mapping_line mapping_column [] front e after) [
  | equal p ↦ ap (λ es. needed_sources (map (λ (e : DecodedMapping). e.original) es)) p
  | double ys x zs p q ↦
      ap (λ es. needed_sources (map (λ (e : DecodedMapping). e.original) es)) p
      ∙ ap needed_sources (map-append (λ (e : DecodedMapping). e.original) ys (x ∷ x ∷ zs))
      ∙ needed-twice (map (λ (e : DecodedMapping). e.original) ys) x.original (map (λ (e : DecodedMapping). e.original) zs)
      ∙ sym (ap (λ es. needed_sources (map (λ (e : DecodedMapping). e.original) es)) q ∙ ap needed_sources (map-append (λ (e : DecodedMapping). e.original) ys (x ∷ zs)))
]
