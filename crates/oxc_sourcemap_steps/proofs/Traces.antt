-- Traces of simplified decoded maps.
use Rattle.std.proofs.Common.{◌≡◌, ◌≢◌, ℕ, ◌+◌, ◌≤◌, Bool, true, false, cond, ◌==◌, Option, Some}
use Rattle.std.proofs.Common.{None, List, [], ◌∷◌, ◌++◌, refl, sym, ap, ◌∙◌, arith, length}
use Rattle.std.specs.List.{AllByRecursion}
use Rattle.std.specs.Option.{option_map, option_or}
use Rattle.std.proofs.lemmas.Bool.{and_parts}
use Rattle.std.proofs.lemmas.Bool.Decides.{nat_tests, not_from_Decides}
use Rattle.oxc_sourcemap_parts.specs.DecodedMap.{DecodedMapping, OriginalPosition, mapping_line}
use Rattle.oxc_sourcemap_parts.specs.DecodedMap.{mapping_column}
use Rattle.oxc_sourcemap_parts.specs.Sorted.{is_sorted_by}
use Rattle.oxc_sourcemap_lookup.specs.Lookup.{pick, clamped_pick, first, at, on_line}
use Rattle.oxc_sourcemap_lookup.proofs.Lookups.{AreNotBefore, at-front, at-here, at-past}
use Rattle.oxc_sourcemap_lookup.proofs.Lookups.{or_else-some}
use Rattle.oxc_sourcemap_steps.specs.Simple.{are_together, is_repeat, is_further, is_after_repeat}
use Rattle.oxc_sourcemap_steps.specs.Simple.{found_items, simple_items}
use Rattle.oxc_sourcemap_steps.specs.Simplified.{at_next_column}
use Rattle.oxc_sourcemap_steps.specs.Same.{point_alike}
use Rattle.oxc_sourcemap_steps.specs.SimplifyLaws.{TracesStay, StaysSorted, IsLeast, MappingsStay}
use Rattle.oxc_sourcemap_steps.proofs.Same.{decides_originals, entry_by}
use Rattle.oxc_sourcemap_steps.proofs.SimplifyScan.{scan, found-scan}
use Rattle.oxc_sourcemap_steps.proofs.SimplifyKeeping.{place_of, off, front, here, past, sorted-two}
use Rattle.oxc_sourcemap_steps.proofs.SimplifyKeeping.{sorted-rest, scan-off, scan-front, scan-here}
use Rattle.oxc_sourcemap_steps.proofs.SimplifyKeeping.{scan-beyond, kept-scan}
use Rattle.oxc_sourcemap_steps.proofs.Order.{found-sorted, found-is-apart, found-first}
use Rattle.oxc_sourcemap_steps.proofs.Order.{found-length, found-all, keeps, keep-sorted}
use Rattle.oxc_sourcemap_steps.proofs.Order.{keep-first, keep-length, keep-all}
use Rattle.oxc_sourcemap_steps.proofs.Unique.{Rising, rising-unique, spread-rising}

module _ {A : Type 0} (line column : A → ℕ) where
  module _ (n col : ℕ) where
    on-more : (c : ℕ) (z : A) (zs : List A) → n ≤ line z → (line z ≡ n → c ≤ column z) → is_sorted_by line column (z ∷ zs) ≡ true → AllByRecursion (λ y. c ≤ column y) (on_line line n zs)
    on-more c z [] h k s = tt
    on-more c z (w ∷ ws) h k s =
        let two = sorted-two line column z w ws s in
        let le : line w ≡ n → c ≤ column w = λ e. let f : line z ≡ n = omega (arith, h, two.0, e) in let a = k f in let b = two.1 (f ∙ sym e) in omega (arith, a, b) in
        let more = on-more c w ws (omega (arith, h, two.0)) le (sorted-rest line column (z ∷ []) w ws s) in
        elim (line w == n) as (λ b. (line w == n) ≡ b → AllByRecursion (λ y. c ≤ column y) (cond b (w ∷ on_line line n ws) (on_line line n ws))) [
          | true ↦ (λ e. (le (grind (arith, nat_tests, e)), more))
          | false ↦ (λ e. more)
        ] refl

    not-before : (x : A) (xs : List A) → line x ≡ n → is_sorted_by line column (x ∷ xs) ≡ true → AreNotBefore column x (on_line line n xs)
    not-before x xs e s = on-more (column x) x xs (omega (arith, e)) (λ _. omega arith) s

    scan-or : (cur : Option A) (xs : List A) → scan line column n col cur xs ≡ option_or (scan line column n col None xs) cur
    scan-or cur [] = refl
    scan-or cur (x ∷ xs) =
        elim (place_of (line x) (column x) n col) [
          | off ne ↦ scan-off line column n col cur x xs ne ∙ scan-or cur xs ∙ ap (λ o. option_or o cur) (sym (scan-off line column n col None x xs ne))
          | front e h ↦ scan-front line column n col cur x xs e h ∙ scan-or (Some x) xs
              ∙ sym (ap (λ o. option_or o cur) (scan-front line column n col None x xs e h ∙ scan-or (Some x) xs) ∙ or_else-some (scan line column n col None xs) x cur)
          | here e h ↦ scan-here line column n col cur x xs e h ∙ ap (λ o. option_or o cur) (sym (scan-here line column n col None x xs e h))
          | past e h ↦ scan-beyond line column n col cur x xs e h ∙ ap (λ o. option_or o cur) (sym (scan-beyond line column n col None x xs e h))
        ]

    at-none : at column [] col ≡ None
    at-none = elim (0 == col) as (λ b. cond {A = Option A} b None None ≡ None) [ true ↦ refl | false ↦ refl ]

    off-line : (x : A) (xs : List A) → line x ≢ n → on_line line n (x ∷ xs) ≡ on_line line n xs
    off-line x xs ne = let e : (line x == n) ≡ false = grind (arith, nat_tests, ne) in rw e refl

    its-line : (x : A) (xs : List A) → line x ≡ n → on_line line n (x ∷ xs) ≡ x ∷ on_line line n xs
    its-line x xs e = let f : (line x == n) ≡ true = grind (arith, nat_tests, e) in rw f refl

    at-of : (xs ys : List A) → xs ≡ ys → at column ys col ≡ at column xs col
    at-of xs ys e = ap (λ zs. at column zs col) (sym e)

    -- in a sorted list a lookup finds what going over it finds
    scan-pick : (xs : List A) → is_sorted_by line column xs ≡ true → scan line column n col None xs ≡ pick line column xs n col
    scan-pick [] s = sym at-none
    scan-pick (x ∷ xs) s =
        let rest = sorted-tail x xs s in
        let ys = on_line line n xs in
        elim (place_of (line x) (column x) n col) [
          | off ne ↦ scan-off line column n col None x xs ne ∙ scan-pick xs rest ∙ at-of (on_line line n (x ∷ xs)) ys (off-line x xs ne)
          | front e h ↦ scan-front line column n col None x xs e h ∙ scan-or (Some x) xs ∙ ap (λ o. option_or o (Some x)) (scan-pick xs rest)
              ∙ sym (at-front column col x ys h (not-before x xs e s)) ∙ at-of (on_line line n (x ∷ xs)) (x ∷ ys) (its-line x xs e)
          | here e h ↦ scan-here line column n col None x xs e h ∙ sym (at-here column col x ys h) ∙ at-of (on_line line n (x ∷ xs)) (x ∷ ys) (its-line x xs e)
          | past e h ↦ scan-beyond line column n col None x xs e h ∙ sym (at-past column col x ys h (not-before x xs e s)) ∙ at-of (on_line line n (x ∷ xs)) (x ∷ ys) (its-line x xs e)
        ] where
          sorted-tail : (x : A) (xs : List A) → is_sorted_by line column (x ∷ xs) ≡ true → is_sorted_by line column xs ≡ true
          sorted-tail x [] s = refl
          sorted-tail x (y ∷ ys) s = sorted-rest line column (x ∷ []) y ys s

  -- ---- simple items
  module _ {V : Type 0} (val : A → V) (same : A → A → Bool) (move : A → A)
      (move_line : (x : A) → line (move x) ≡ line x) (move_column : (x : A) → column (move x) ≡ column x + 1) (move_val : (x : A) → val (move x) ≡ val x)
      (same_val : (x y : A) → same x y ≡ true → val x ≡ val y) (differ_val : (x y : A) → same x y ≡ false → val x ≢ val y) where
    after-further : (before : List A) (y : A) → is_after_repeat line column same before y ≡ true → is_further line column before y ≡ true
    after-further [] y e = e
    after-further (x ∷ before) y e = (and_parts (are_together line column x y) (is_repeat line same before x) e).0

    abbrev simple : List A → List A
    simple xs = simple_items line column same move xs

    abbrev apart_items : List A → List A
    apart_items xs = keeps line column same move (is_further line column) [] (found_items line column xs)

    pub simple-sorted : (xs : List A) → is_sorted_by line column xs ≡ true → is_sorted_by line column (simple xs) ≡ true
    simple-sorted xs s = keep-sorted line column same move (is_after_repeat line column same) move_line move_column after-further (found_items line column xs) (found-sorted line column xs s) (found-is-apart line column xs)

    apart-sorted : (xs : List A) → is_sorted_by line column xs ≡ true → is_sorted_by line column (apart_items xs) ≡ true
    apart-sorted xs s = keep-sorted line column same move (is_further line column) move_line move_column (λ b y e. e) (found_items line column xs) (found-sorted line column xs s) (found-is-apart line column xs)

    module _ (moves : List A → A → Bool)
        (moves_further : (before : List A) (y : A) → moves before y ≡ true → is_further line column before y ≡ true)
        (moves_repeat : (before : List A) (y : A) → is_after_repeat line column same before y ≡ true → moves before y ≡ true) where
      -- what is kept of what a lookup may find has the values that the items have
      kept-pick : (xs : List A) (n col : ℕ) → is_sorted_by line column xs ≡ true → option_map val (pick line column (keeps line column same move moves [] (found_items line column xs)) n col) ≡ option_map val (pick line column xs n col)
      kept-pick xs n col s =
          let fs = found_items line column xs in
          let sf = found-sorted line column xs s in
          let sk = keep-sorted line column same move moves move_line move_column moves_further fs sf (found-is-apart line column xs) in
          ap (option_map val) (sym (scan-pick n col (keeps line column same move moves [] fs) sk))
          ∙ kept-scan line column val same move moves move_line move_column move_val same_val moves_further moves_repeat n col None None [] fs
          (record { reached = tt; stands = tt; alike = refl; sorted = sf; apart = found-is-apart line column xs })
          ∙ ap (option_map val) (found-scan line column n col None [] xs tt ∙ scan-pick n col xs s)

    pub simple-pick : (xs : List A) (n col : ℕ) → is_sorted_by line column xs ≡ true → option_map val (pick line column (simple xs) n col) ≡ option_map val (pick line column xs n col)
    simple-pick xs n col s = kept-pick (is_after_repeat line column same) after-further (λ b y e. e) xs n col s

    apart-pick : (xs : List A) (n col : ℕ) → is_sorted_by line column xs ≡ true → option_map val (pick line column (apart_items xs) n col) ≡ option_map val (pick line column xs n col)
    apart-pick xs n col s = kept-pick (is_further line column) (λ b y e. e) after-further xs n col s

    or-map : {B : Type 0} (o p : Option A) (f : A → B) → option_map f (option_or o p) ≡ option_or (option_map f o) (option_map f p)
    or-map None p f = refl
    or-map (Some x) p f = refl

    simple-first : (n : ℕ) (xs : List A) → first (on_line line n (simple xs)) ≡ first (on_line line n xs)
    simple-first n xs = keep-first line column same move (is_after_repeat line column same) move_line move_column after-further n [] (found_items line column xs) tt ∙ found-first line column n [] xs tt

    pub simple-clamped : (xs : List A) (n col : ℕ) → is_sorted_by line column xs ≡ true → option_map val (clamped_pick line column (simple xs) n col) ≡ option_map val (clamped_pick line column xs n col)
    simple-clamped xs n col s =
        or-map (pick line column (simple xs) n col) (first (on_line line n (simple xs))) val
        ∙ ap (λ o. option_or o (option_map val (first (on_line line n (simple xs))))) (simple-pick xs n col s)
        ∙ ap (λ o. option_or (option_map val (pick line column xs n col)) (option_map val o)) (simple-first n xs)
        ∙ sym (or-map (pick line column xs n col) (first (on_line line n xs)) val)

    simple-length : (before xs : List A) → length (keeps line column same move (is_after_repeat line column same) before xs) ≡ length (keeps line column same move (is_further line column) before xs)
    simple-length before [] = refl
    simple-length before (y ∷ ys) =
        let ih = simple-length (y ∷ before) ys in
        elim (is_repeat line same before y) as (λ b. length (cond b [] ((cond (is_after_repeat line column same before y) (move y) y) ∷ []) ++ keeps line column same move (is_after_repeat line column same) (y ∷ before) ys)
        ≡ length (cond b [] ((cond (is_further line column before y) (move y) y) ∷ []) ++ keeps line column same move (is_further line column) (y ∷ before) ys)) [
          | true ↦ ih
          | false ↦ omega (arith, ih)
        ]

    module _ (determined : (x y : A) → line x ≡ line y → column x ≡ column y → val x ≡ val y → x ≡ y) where
      rising : (xs : List A) → is_sorted_by line column xs ≡ true → Rising line column val None (apart_items xs)
      rising xs s = spread-rising line column val same move move_line move_column move_val same_val differ_val None [] (found_items line column xs) tt (found-sorted line column xs s) (found-is-apart line column xs)

      -- sorted lists that look up alike are the same, spread
      apart-unique : (xs ys : List A) → is_sorted_by line column xs ≡ true → is_sorted_by line column ys ≡ true
          → ((n col : ℕ) → option_map val (pick line column xs n col) ≡ option_map val (pick line column ys n col)) → apart_items xs ≡ apart_items ys
      apart-unique xs ys s q h =
          rising-unique line column val determined None (apart_items xs) (apart_items ys) (rising xs s) (rising ys q)
          (λ n col _. ap (option_map val) (scan-pick n col (apart_items xs) (apart-sorted xs s)) ∙ apart-pick xs n col s ∙ h n col
          ∙ sym (ap (option_map val) (scan-pick n col (apart_items ys) (apart-sorted ys q)) ∙ apart-pick ys n col q))

      pub simple-least : (xs ys : List A) → is_sorted_by line column xs ≡ true → is_sorted_by line column ys ≡ true
          → ((n col : ℕ) → option_map val (pick line column xs n col) ≡ option_map val (pick line column ys n col)) → length (simple xs) ≤ length ys
      simple-least xs ys s q h =
          let e = simple-length [] (found_items line column xs) in
          let f = ap length (apart-unique xs ys s q h) in
          let g = keep-length line column same move (is_further line column) [] (found_items line column ys) in
          let k = found-length line column [] ys in
          omega (arith, e, f, g, k)

      pub simple-once : (xs : List A) → is_sorted_by line column xs ≡ true → simple (simple xs) ≡ simple xs
      simple-once xs s =
          let ys = simple xs in
          let q = simple-sorted xs s in
          let least = simple-least xs (simple ys) s (simple-sorted ys q) (λ n col. sym (simple-pick ys n col q ∙ simple-pick xs n col s)) in
          let one = found-length line column [] ys in
          let two = keep-length line column same move (is_after_repeat line column same) [] (found_items line column ys) in
          let all = found-all line column [] ys (omega (arith, least, one, two)) in
          let three = ap length all in
          keep-all line column same move (is_after_repeat line column same) (λ b y e. e) [] (found_items line column ys) tt (omega (arith, least, one, two)) ∙ all

-- ---- decoded maps
-- the tests for equality decide it
pub alike-same : (a b : DecodedMapping) → point_alike a b ≡ true → a.original ≡ b.original
alike-same a b e = (decides_originals a b).0 e

pub alike-differ : (a b : DecodedMapping) → point_alike a b ≡ false → a.original ≢ b.original
alike-differ a b e = not_from_Decides (point_alike a b) (decides_originals a b) e

same-mapping : (a b : DecodedMapping) → mapping_line a ≡ mapping_line b → mapping_column a ≡ mapping_column b → a.original ≡ b.original → a ≡ b
same-mapping a b e f g = entry_by a b.dst_line b.dst_col b.original e f g

abbrev original : DecodedMapping → Option OriginalPosition
original e = e.original

pub traces-stay : TracesStay
traces-stay s h line col = (
  simple-pick mapping_line mapping_column original point_alike at_next_column (λ x. refl) (λ x. refl) (λ x. refl) alike-same alike-differ s.mappings line col h,
  simple-clamped mapping_line mapping_column original point_alike at_next_column (λ x. refl) (λ x. refl) (λ x. refl) alike-same alike-differ s.mappings line col h,
)

pub stays-sorted : StaysSorted
stays-sorted s h = simple-sorted mapping_line mapping_column original point_alike at_next_column (λ x. refl) (λ x. refl) (λ x. refl) alike-same alike-differ s.mappings h

pub is-least : IsLeast
is-least s t h k e = simple-least mapping_line mapping_column original point_alike at_next_column (λ x. refl) (λ x. refl) (λ x. refl) alike-same alike-differ same-mapping s.mappings t.mappings h k e

pub mappings-stay : MappingsStay
mappings-stay s h = simple-once mapping_line mapping_column original point_alike at_next_column (λ x. refl) (λ x. refl) (λ x. refl) alike-same alike-differ same-mapping s.mappings h
