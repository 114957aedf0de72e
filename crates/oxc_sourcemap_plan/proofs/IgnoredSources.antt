-- Sources with whether they are ignored: an ignore list gives them again, and those of a remapped map are those that stand for
-- its sources.
use Rattle.std.proofs.Common.{◌≡◌, refl, sym, ap, ◌∙◌, ℕ, ◌+◌, ◌<◌, ◌≤◌, Bool, true, false, cond}
use Rattle.std.proofs.Common.{◌||◌, ◌==◌, List, [], ◌∷◌, ◌++◌, map, length, Option, Some, None}
use Rattle.std.proofs.Common.{append_assoc, arith}
use Rattle.std.proofs.lemmas.Bool.Decides.{nat_tests}
use Rattle.std.proofs.lemmas.List.{map-append, append-nil, length-map}
use Rattle.std.specs.List.{flat_map, list_any, AllByRecursion}
use Rattle.std.specs.Option.{IfSome}
use Rattle.oxc_sourcemap_parts.specs.Record.{Text}
use Rattle.oxc_sourcemap_parts.specs.DecodedMap.{DecodedSource, DecodedMap}
use Rattle.oxc_sourcemap_join.specs.Joined.{raised_ignore_list, appended_ignore_lists}
use Rattle.oxc_sourcemap_steps.specs.Blocks.{sources_by, sources_for, remapped_sources, is_listed}
use Rattle.oxc_sourcemap_steps.specs.Blocks.{marked_from, marked_sources, marked_by, marked_for}
use Rattle.oxc_sourcemap_steps.specs.Blocks.{ignored_from, unless_empty, ignored_ids}
use Rattle.oxc_sourcemap_steps.specs.Blocks.{remapped_ignore_list}
use Rattle.oxc_sourcemap_steps.specs.Inputs.{input_for}
use Rattle.oxc_sourcemap_steps.proofs.Flags.{marked-unmarked, ignored-append}
use Rattle.oxc_sourcemap_plan.specs.RemappedDecodedMaps.{remapped_decoded_map}

sources-by : (q : Option DecodedMap) (s : DecodedSource) (f : Bool) → map (λ m. m.0) (marked_by q (s, f)) ≡ sources_by q s
sources-by None s f = refl
sources-by (Some b) s f = marked-unmarked 0 b.sources b.ignore_list

sources-marked_sources : (inputs : List (Text × DecodedMap)) (i : ℕ) (ss : List DecodedSource) (list : Option (List ℕ)) → map (λ m. m.0) (flat_map (marked_for inputs) (marked_from i ss list)) ≡ remapped_sources inputs ss
sources-marked_sources inputs i [] list = refl
sources-marked_sources inputs i (s ∷ ss) list =
    map-append (λ m. m.0) (marked_for inputs (s, is_listed list i)) (flat_map (marked_for inputs) (marked_from (i + 1) ss list))
    ∙ ap (λ zs. zs ++ map (λ m. m.0) (flat_map (marked_for inputs) (marked_from (i + 1) ss list))) (sources-by (input_for inputs s.path) s (is_listed list i))
    ∙ ap (λ zs. sources_for inputs s ++ zs) (sources-marked_sources inputs (i + 1) ss list)

-- ---- an ignore list says again which sources are ignored
any-append : (p : ℕ → Bool) (xs ys : List ℕ) → list_any p (xs ++ ys) ≡ (list_any p xs || list_any p ys)
any-append p [] ys = refl
any-append p (x ∷ xs) ys = elim (p x) as (λ b. (b || list_any p (xs ++ ys)) ≡ ((b || list_any p xs) || list_any p ys)) [ true ↦ refl | false ↦ any-append p xs ys ]

none-below : (i : ℕ) (xs : List ℕ) → AllByRecursion (λ x. x < i) xs → list_any (λ id. id == i) xs ≡ false
none-below i [] h = refl
none-below i (x ∷ xs) h = let e : (x == i) ≡ false = grind (arith, nat_tests, h.0) in ap (λ b. b || list_any (λ id. id == i) xs) e ∙ none-below i xs h.1

none-above-by : (f : Bool) (i k : ℕ) (ids : List ℕ) → i < k → list_any (λ id. id == i) ids ≡ false → list_any (λ id. id == i) (cond f (k ∷ ids) ids) ≡ false
none-above-by true i k ids h e = let d : (k == i) ≡ false = grind (arith, nat_tests, h) in ap (λ b. b || list_any (λ id. id == i) ids) d ∙ e
none-above-by false i k ids h e = e

none-above : (i k : ℕ) (ms : List (DecodedSource × Bool)) → i < k → list_any (λ id. id == i) (ignored_from k ms) ≡ false
none-above i k [] h = refl
none-above i k (m ∷ ms) h = none-above-by m.1 i k (ignored_from (k + 1) ms) h (none-above i (k + 1) ms (omega (arith, h)))

weaker : (i : ℕ) (xs : List ℕ) → AllByRecursion (λ x. x < i) xs → AllByRecursion (λ x. x < i + 1) xs
weaker i [] h = tt
weaker i (x ∷ xs) h = (omega (arith, h.0), weaker i xs h.1)

with-last : (i : ℕ) (xs : List ℕ) → AllByRecursion (λ x. x < i) xs → AllByRecursion (λ x. x < i + 1) (xs ++ i ∷ [])
with-last i [] h = (omega arith, tt)
with-last i (x ∷ xs) h = (omega (arith, h.0), with-last i xs h.1)

itself : (i : ℕ) → (i == i) ≡ true
itself i = grind (arith, nat_tests)

back-by : (i : ℕ) (front : List ℕ) (s : DecodedSource) (f : Bool) (ms : List (DecodedSource × Bool)) → AllByRecursion (λ x. x < i) front
    → ((front : List ℕ) → AllByRecursion (λ x. x < i + 1) front → marked_from (i + 1) (map (λ m. m.0) ms) (Some (front ++ ignored_from (i + 1) ms)) ≡ ms)
    → marked_from i (s ∷ map (λ m. m.0) ms) (Some (front ++ cond f (i ∷ ignored_from (i + 1) ms) (ignored_from (i + 1) ms))) ≡ (s, f) ∷ ms
back-by i front s true ms h more =
    let rest = ignored_from (i + 1) ms in
    let here : list_any (λ id. id == i) (front ++ i ∷ rest) ≡ true =
    any-append (λ id. id == i) front (i ∷ rest) ∙ ap (λ b. b || list_any (λ id. id == i) (i ∷ rest)) (none-below i front h) ∙ ap (λ b. b || list_any (λ id. id == i) rest) (itself i) in
    ap (λ (b : Bool). (s, b) ∷ marked_from (i + 1) (map (λ m. m.0) ms) (Some (front ++ i ∷ rest))) here
    ∙ ap (λ l. (s, true) ∷ marked_from (i + 1) (map (λ m. m.0) ms) (Some l)) (sym (append_assoc front (i ∷ []) rest))
    ∙ ap (λ zs. (s, true) ∷ zs) (more (front ++ i ∷ []) (with-last i front h))
back-by i front s false ms h more =
    let rest = ignored_from (i + 1) ms in
    let here : list_any (λ id. id == i) (front ++ rest) ≡ false =
    any-append (λ id. id == i) front rest ∙ ap (λ b. b || list_any (λ id. id == i) rest) (none-below i front h) ∙ none-above i (i + 1) ms (omega arith) in
    ap (λ (b : Bool). (s, b) ∷ marked_from (i + 1) (map (λ m. m.0) ms) (Some (front ++ rest))) here
    ∙ ap (λ zs. (s, false) ∷ zs) (more front (weaker i front h))

back : (i : ℕ) (front : List ℕ) (ms : List (DecodedSource × Bool)) → AllByRecursion (λ x. x < i) front → marked_from i (map (λ m. m.0) ms) (Some (front ++ ignored_from i ms)) ≡ ms
back i front [] h = refl
back i front (m ∷ ms) h = back-by i front m.0 m.1 ms h (λ front h. back (i + 1) front ms h)

none-is-empty : (i : ℕ) (ss : List DecodedSource) → marked_from i ss None ≡ marked_from i ss (Some [])
none-is-empty i [] = refl
none-is-empty i (s ∷ ss) = ap (λ zs. (s, false) ∷ zs) (none-is-empty (i + 1) ss)

unless-empty : (i : ℕ) (ss : List DecodedSource) (ids : List ℕ) → marked_from i ss (unless_empty ids) ≡ marked_from i ss (Some ids)
unless-empty i ss [] = none-is-empty i ss
unless-empty i ss (id ∷ ids) = refl

pub marked-again : (ms : List (DecodedSource × Bool)) → marked_from 0 (map (λ m. m.0) ms) (ignored_ids ms) ≡ ms
marked-again ms = unless-empty 0 (map (λ m. m.0) ms) (ignored_from 0 ms) ∙ back 0 [] ms tt

pub marked_remapped : (inputs : List (Text × DecodedMap)) (a : DecodedMap) → marked_sources (remapped_decoded_map a inputs) ≡ flat_map (marked_for inputs) (marked_sources a)
marked_remapped inputs a =
    ap (λ ss. marked_from 0 ss (remapped_ignore_list inputs a)) (sym (sources-marked_sources inputs 0 a.sources a.ignore_list))
    ∙ marked-again (flat_map (marked_for inputs) (marked_sources a))

pub count_marked : (inputs : List (Text × DecodedMap)) (a : DecodedMap) → length (flat_map (marked_for inputs) (marked_sources a)) ≡ length (remapped_sources inputs a.sources)
count_marked inputs a = sym (length-map (flat_map (marked_for inputs) (marked_sources a)) (λ m. m.0)) ∙ ap length (sources-marked_sources inputs 0 a.sources a.ignore_list)

-- ---- one list after another
ignored-shifted-by : (f : Bool) (i n k : ℕ) (xs ys : List ℕ) → k ≡ i + n → xs ≡ map (λ id. id + n) ys → cond f (k ∷ xs) xs ≡ map (λ id. id + n) (cond f (i ∷ ys) ys)
ignored-shifted-by true i n k xs ys e f = ap (λ j. j ∷ xs) e ∙ ap (λ zs. (i + n) ∷ zs) f
ignored-shifted-by false i n k xs ys e f = f

ignored-shifted : (i n k : ℕ) (ms : List (DecodedSource × Bool)) → k ≡ i + n → ignored_from k ms ≡ map (λ id. id + n) (ignored_from i ms)
ignored-shifted i n k [] e = refl
ignored-shifted i n k (m ∷ ms) e = ignored-shifted-by m.1 i n k _ _ e (ignored-shifted (i + 1) n (k + 1) ms (omega (arith, e)))

lists-append : (xs ys : List ℕ) (n : ℕ) → unless_empty (xs ++ map (λ id. id + n) ys) ≡ appended_ignore_lists (unless_empty xs) (raised_ignore_list n (unless_empty ys))
lists-append [] [] n = refl
lists-append [] (y ∷ ys) n = refl
lists-append (x ∷ xs) [] n = ap (λ zs. Some (x ∷ zs)) (append-nil xs)
lists-append (x ∷ xs) (y ∷ ys) n = refl

pub ignore_list_append : (ms ns : List (DecodedSource × Bool)) → ignored_ids (ms ++ ns) ≡ appended_ignore_lists (ignored_ids ms) (raised_ignore_list (length ms) (ignored_ids ns))
ignore_list_append ms ns =
    ap unless_empty (ignored-append 0 (length ms) ms ns (omega arith) ∙ ap (λ zs. ignored_from 0 ms ++ zs) (ignored-shifted 0 (length ms) (length ms) ns (omega arith)))
    ∙ lists-append (ignored_from 0 ms) (ignored_from 0 ns) (length ms)

-- ---- the sources of a join
module _ (l m : Option (List ℕ)) where
  same-marks : (i j : ℕ) (ss : List DecodedSource) → ((k : ℕ) → k < length ss → is_listed l (i + k) ≡ is_listed m (j + k)) → marked_from i ss l ≡ marked_from j ss m
  same-marks i j [] h = refl
  same-marks i j (s ∷ ss) h =
      let here : is_listed l i ≡ is_listed m j = ap (is_listed l) (omega arith) ∙ h 0 (omega arith) ∙ ap (is_listed m) (omega arith) in
      ap (λ (b : Bool). (s, b) ∷ marked_from (i + 1) ss l) here
      ∙ ap (λ zs. (s, is_listed m j) ∷ zs) (same-marks (i + 1) (j + 1) ss (λ k g. ap (is_listed l) (omega arith) ∙ h (k + 1) (omega (arith, g)) ∙ ap (is_listed m) (omega arith)))

marked-append : (i k : ℕ) (xs ys : List DecodedSource) (l : Option (List ℕ)) → k ≡ i + length xs → marked_from i (xs ++ ys) l ≡ marked_from i xs l ++ marked_from k ys l
marked-append i k [] ys l e = ap (λ j. marked_from j ys l) (omega (arith, e))
marked-append i k (x ∷ xs) ys l e = ap (λ zs. (x, is_listed l i) ∷ zs) (marked-append (i + 1) k xs ys l (omega (arith, e)))

any-raised : (n i k : ℕ) (ids : List ℕ) → i ≡ k + n → list_any (λ id. id == i) (map (λ id. id + n) ids) ≡ list_any (λ id. id == k) ids
any-raised n i k [] e = refl
any-raised n i k (x ∷ xs) e =
    let h : ((x + n) == i) ≡ (x == k) = grind (arith, nat_tests, e) in
    ap (λ b. b || list_any (λ id. id == i) (map (λ id. id + n) xs)) h ∙ ap (λ b. (x == k) || b) (any-raised n i k xs e)

none-raised : (n i : ℕ) (ids : List ℕ) → i < n → list_any (λ id. id == i) (map (λ id. id + n) ids) ≡ false
none-raised n i [] h = refl
none-raised n i (x ∷ xs) h = let e : ((x + n) == i) ≡ false = grind (arith, nat_tests, h) in ap (λ b. b || list_any (λ id. id == i) (map (λ id. id + n) xs)) e ∙ none-raised n i xs h

or-false : (b : Bool) → (b || false) ≡ b
or-false true = refl
or-false false = refl

listed-left : (l r : Option (List ℕ)) (n i : ℕ) → i < n → is_listed (appended_ignore_lists l (raised_ignore_list n r)) i ≡ is_listed l i
listed-left l None n i h = refl
listed-left None (Some ids) n i h = none-raised n i ids h
listed-left (Some front) (Some ids) n i h = any-append (λ id. id == i) front (map (λ id. id + n) ids) ∙ ap (λ b. list_any (λ id. id == i) front || b) (none-raised n i ids h) ∙ or-false (list_any (λ id. id == i) front)

all-below : (n i : ℕ) (xs : List ℕ) → n ≤ i → AllByRecursion (λ x. x < n) xs → AllByRecursion (λ x. x < i) xs
all-below n i [] l h = tt
all-below n i (x ∷ xs) l h = (omega (arith, l, h.0), all-below n i xs l h.1)

listed-right : (l r : Option (List ℕ)) (n i k : ℕ) → i ≡ k + n → IfSome l (AllByRecursion (λ id. id < n)) → is_listed (appended_ignore_lists l (raised_ignore_list n r)) i ≡ is_listed r k
listed-right None None n i k e h = refl
listed-right (Some front) None n i k e h = none-below i front (all-below n i front (omega (arith, e)) h)
listed-right None (Some ids) n i k e h = any-raised n i k ids e
listed-right (Some front) (Some ids) n i k e h =
    any-append (λ id. id == i) front (map (λ id. id + n) ids) ∙ ap (λ b. b || list_any (λ id. id == i) (map (λ id. id + n) ids)) (none-below i front (all-below n i front (omega (arith, e)) h)) ∙ any-raised n i k ids e

pub marked_after : (xs ys : List DecodedSource) (l r : Option (List ℕ)) → IfSome l (AllByRecursion (λ id. id < length xs))
    → marked_from 0 (xs ++ ys) (appended_ignore_lists l (raised_ignore_list (length xs) r)) ≡ marked_from 0 xs l ++ marked_from 0 ys r
marked_after xs ys l r h =
    let both = appended_ignore_lists l (raised_ignore_list (length xs) r) in
    marked-append 0 (length xs) xs ys both (omega arith)
    ∙ ap (λ zs. zs ++ marked_from (length xs) ys both) (same-marks both l 0 0 xs (λ k g. listed-left l r (length xs) (0 + k) (omega (arith, g))))
    ∙ ap (λ zs. marked_from 0 xs l ++ zs) (same-marks both r (length xs) 0 ys (λ k g. listed-right l r (length xs) (length xs + k) (0 + k) (omega arith) h))
