-- Simplified maps as wholes.
use Rattle.std.proofs.Common.{◌≡◌, ◌⊎◌, inl, inr, refl, sym, ap, ◌∙◌, subst, ℕ, ◌==◌}
use Rattle.std.proofs.Common.{Bool, true, false, cond, ◌||◌, List, [], ◌∷◌, ◌++◌, map, filter}
use Rattle.std.proofs.Common.{length}
use Rattle.std.proofs.Common.{Option, Some, None, Ok, Err, arith, if◌then◌else◌}
use Rattle.std.specs.List.{slice_get, filter_map, flat_map, list_any, AllByRecursion}
use Rattle.std.specs.Option.{option_and_then}
use Rattle.std.proofs.lemmas.Bool.{and_parts}
use Rattle.std.proofs.lemmas.List.{length-map}
use Rattle.std.proofs.lemmas.List.Folds.{list_any-append}
use Rattle.oxc_sourcemap_tokens.specs.declared.errors.error.Error.TheVariants.{TooLarge}
use Rattle.oxc_sourcemap_tokens.specs.declared.errors.plan_error.PlanError.TheVariants.{Map}
use Rattle.oxc_sourcemap_tokens.specs.declared.errors.plan_error.PlanError.TheVariants.{Unsorted}
use Rattle.oxc_sourcemap_tokens.specs.Token.{TokenRecord}
use Rattle.oxc_sourcemap_parts.specs.DecodedMap.{DecodedSource, OriginalPosition, DecodedMapping}
use Rattle.oxc_sourcemap_parts.specs.DecodedMap.{sources_of, name_of, mapping_of}
use Rattle.oxc_sourcemap_parts.specs.DecodedMap.{decoded_map_of}
use Rattle.oxc_sourcemap_parts.specs.Record.{Text, MapRecord}
use Rattle.oxc_sourcemap_parts.specs.Sorted.{are_tokens_sorted, token_line, token_column}
use Rattle.oxc_sourcemap_parts.specs.Texts.{with_text_at, with_text, with_texts}
use Rattle.oxc_sourcemap_parts.proofs.Places.{index-with}
use Rattle.oxc_sourcemap_lookup.specs.Trace.{original_in}
use Rattle.oxc_sourcemap_join.proofs.SameToken.{decides_option}
use Rattle.oxc_sourcemap_steps.specs.Blocks.{marked_from, ignored_ids}
use Rattle.oxc_sourcemap_steps.specs.InheritedNames.{with_inherited}
use Rattle.oxc_sourcemap_steps.specs.Same.{is_same_source, is_same_original}
use Rattle.oxc_sourcemap_steps.specs.Simple.{is_repeat, is_after_repeat, kept_after}
use Rattle.oxc_sourcemap_steps.specs.Simplified.{simple_mappings, is_same_marked, index_of_marked}
use Rattle.oxc_sourcemap_steps.specs.Simplified.{listings, with_source, with_sources, source_in}
use Rattle.oxc_sourcemap_steps.specs.Simplified.{needed_sources, found_tokens}
use Rattle.oxc_sourcemap_steps.specs.Simplified.{found_originals, are_alike_in, name_in}
use Rattle.oxc_sourcemap_steps.specs.Simplified.{token_at_next_column, simple_tokens, simple_names}
use Rattle.oxc_sourcemap_steps.specs.Simplified.{simple_sources_of, marked_source_of, token_among}
use Rattle.oxc_sourcemap_steps.specs.Simplified.{renumbered, simplified, fits, simplification}
use Rattle.oxc_sourcemap_steps.proofs.Means.{decoded_map_simplified, means-simple, IsReady, Placed}
use Rattle.oxc_sourcemap_steps.proofs.Means.{all-ready, sources-again, map-as, map-after}
use Rattle.oxc_sourcemap_steps.proofs.NeededNames.{name-back}
use Rattle.oxc_sourcemap_steps.proofs.NeededPlaces.{named-cons-of, with-source-has, is-listed}
use Rattle.oxc_sourcemap_steps.proofs.NeededPlaces.{at-in}
use Rattle.oxc_sourcemap_steps.proofs.NeededPlaces.{decides_marked}
use Rattle.oxc_sourcemap_steps.proofs.Order.{found-length, found-all, keep-length, keep-all}
use Rattle.oxc_sourcemap_steps.proofs.Same.{decides_origin, decides_source}
use Rattle.oxc_sourcemap_steps.proofs.Sound.{simplified-sorted, sorted-mappings}
use Rattle.oxc_sourcemap_steps.proofs.Traces.{mappings-stay}
use Rattle.oxc_sourcemap_plan.proofs.IgnoredSources.{marked-again}
use Rattle.oxc_sourcemap_plan.specs.SimplifiedWhole.{SimplifyingAgain, SimplificationAgain}
use Rattle.oxc_sourcemap_plan.specs.SimplifiedWhole.{marked_in}

-- ---- what is kept needs what is found
-- values that are added to something, one after the other
abbrev run : {L V : Type 0} → (L → V → L) → L → List V → L
run add l [] = l
run add l (v ∷ vs) = run add (add l v) vs

module _ {A V L : Type 0} (line : A → ℕ) (same : A → A → Bool) (move : A → A) (moves : List A → A → Bool) (val : A → V)
    (move_val : (x : A) → val (move x) ≡ val x) (same_val : (x y : A) → same x y ≡ true → val x ≡ val y)
    (add : L → V → L) (add_twice : (l : L) (v : V) → add (add l v) v ≡ add l v) where
  -- the nearest item before was added
  abbrev Added : L → List A → Type 0
  Added l [] = Unit {0}
  Added l (x ∷ before) = add l (val x) ≡ l

  repeated : (before : List A) (y : A) (l : L) → Added l before → is_repeat line same before y ≡ true → add l (val y) ≡ l
  repeated [] y l h e = absurd (cc (e))
  repeated (x ∷ before) y l h e = ap (add l) (sym (same_val x y (and_parts (line x == line y) (same x y) e).1)) ∙ h

  moved-val : (b : Bool) (y : A) → val (cond b (move y) y) ≡ val y
  moved-val true y = move_val y
  moved-val false y = refl

  kept-run : (l : L) (before xs : List A) → Added l before → run add l (map val (kept_after line same move moves before xs)) ≡ run add l (map val xs)
  kept-run l before [] h = refl
  kept-run l before (y ∷ ys) h =
      let rest = kept_after line same move moves (y ∷ before) ys in
      elim (is_repeat line same before y) as (λ b. is_repeat line same before y ≡ b → run add l (map val (cond b [] ((cond (moves before y) (move y) y) ∷ []) ++ rest)) ≡ run add (add l (val y)) (map val ys)) [
        | true ↦ (λ e. let stays : add l (val y) ≡ l = repeated before y l h e in kept-run l (y ∷ before) ys stays ∙ ap (λ l. run add l (map val ys)) (sym stays))
        | false ↦ (λ e. ap (λ v. run add (add l v) (map val rest)) (moved-val (moves before y) y) ∙ kept-run (add l (val y)) (y ∷ before) ys (add_twice l (val y)))
      ] refl

-- names
abbrev add_name : List Text → Option OriginalPosition → List Text
add_name names o = with_inherited names (name_in o)

run-names : (names : List Text) (os : List (Option OriginalPosition)) → run add_name names os ≡ with_texts names (filter_map name_in os)
run-names names [] = refl
run-names names (o ∷ os) = run-names (add_name names o) os ∙ sym (named-cons-of (name_in o) names o os refl)

inherited-twice : (names : List Text) (n : Option Text) → with_inherited (with_inherited names n) n ≡ with_inherited names n
inherited-twice names None = refl
inherited-twice names (Some x) = ap (λ o. with_text_at o (with_text names x) x) (index-with x names)

-- sources
abbrev add_source : List DecodedSource → Option OriginalPosition → List DecodedSource
add_source sources None = sources
add_source sources (Some o) = with_source sources o.source

run-sources : (sources : List DecodedSource) (os : List (Option OriginalPosition)) → run add_source sources os ≡ with_sources sources (filter_map source_in os)
run-sources sources [] = refl
run-sources sources (None ∷ os) = run-sources sources os
run-sources sources (Some o ∷ os) = run-sources (with_source sources o.source) os

source-twice : (sources : List DecodedSource) (o : Option OriginalPosition) → add_source (add_source sources o) o ≡ add_source sources o
source-twice sources None = refl
source-twice sources (Some o) =
    let x = o.source in ap (λ b. cond b (with_source sources x) (with_source sources x ++ x ∷ [])) (with-source-has x sources)

module _ (r : MapRecord) where
  same-original : (t u : TokenRecord) → are_alike_in r t u ≡ true → original_in r t ≡ original_in r u
  same-original t u e = (decides_option is_same_original decides_origin (original_in r t) (original_in r u)).0 e

  kept-needs : {L : Type 0} (add : L → Option OriginalPosition → L) → ((l : L) (o : Option OriginalPosition) → add (add l o) o ≡ add l o) → (l : L)
      → run add l (map (original_in r) (simple_tokens r)) ≡ run add l (found_originals r)
  kept-needs add twice l =
      kept-run token_line (are_alike_in r) token_at_next_column (is_after_repeat token_line token_column (are_alike_in r)) (original_in r) (λ t. refl) same-original add twice l [] (found_tokens r) tt

  pub needs-names : with_texts [] (filter_map name_in (map (original_in r) (simple_tokens r))) ≡ simple_names r
  needs-names =
      sym (run-names [] (map (original_in r) (simple_tokens r))) ∙ kept-needs add_name (λ names o. inherited-twice names (name_in o)) [] ∙ run-names [] (found_originals r)

  pub needs-sources : needed_sources (map (original_in r) (simple_tokens r)) ≡ needed_sources (found_originals r)
  needs-sources =
      sym (run-sources [] (map (original_in r) (simple_tokens r))) ∙ kept-needs add_source source-twice [] ∙ run-sources [] (found_originals r)

-- ---- sources with their marks
or-cases : (a b : Bool) → (a || b) ≡ true → (a ≡ true) ⊎ (b ≡ true)
or-cases true b e = inl refl
or-cases false b e = inr e

-- what passes a filter by membership is a member
member-of : (marked : List (DecodedSource × Bool)) (q : DecodedSource × Bool) (zs : List (DecodedSource × Bool))
    → list_any (is_same_marked q) (filter (λ m. list_any (is_same_marked m) marked) zs) ≡ true → list_any (is_same_marked q) marked ≡ true
member-of marked q [] e = absurd (cc (e))
member-of marked q (z ∷ zs) e =
    let test : DecodedSource × Bool → Bool = λ m. list_any (is_same_marked m) marked in
    elim (test z) as (λ b. test z ≡ b → list_any (is_same_marked q) (cond b (z ∷ filter test zs) (filter test zs)) ≡ true → test q ≡ true) [
      | true ↦ (λ f e. elim (or-cases (is_same_marked q z) (list_any (is_same_marked q) (filter test zs)) e) [
        | inl g ↦ ap test ((decides_marked q z).0 g) ∙ f
        | inr g ↦ member-of marked q zs g
      ])
      | false ↦ (λ f e. member-of marked q zs e)
    ] refl e

member-back : (marked : List (DecodedSource × Bool)) (q : DecodedSource × Bool) (xs : List DecodedSource) → list_any (is_same_marked q) (flat_map (listings marked) xs) ≡ true → list_any (is_same_marked q) marked ≡ true
member-back marked q [] e = absurd (cc (e))
member-back marked q (x ∷ xs) e =
    elim (or-cases (list_any (is_same_marked q) (listings marked x)) (list_any (is_same_marked q) (flat_map (listings marked) xs)) (sym (list_any-append (is_same_marked q) (listings marked x) (flat_map (listings marked) xs)) ∙ e)) [
      | inl g ↦ member-of marked q ((x, false) ∷ (x, true) ∷ []) g
      | inr g ↦ member-back marked q xs g
    ]

-- the listings of a source by whether it is listed as not ignored and as ignored
abbrev pub listings_by : Bool → Bool → DecodedSource → List (DecodedSource × Bool)
listings_by c d x = cond c ((x, false) ∷ cond d ((x, true) ∷ []) []) (cond d ((x, true) ∷ []) [])

module _ (marked : List (DecodedSource × Bool)) (needed : List DecodedSource) where
  abbrev kept : List (DecodedSource × Bool)
  kept = flat_map (listings marked) needed

  same-member : (x : DecodedSource) (b : Bool) → list_any (is_same_source x) needed ≡ true → list_any (is_same_marked (x, b)) kept ≡ list_any (is_same_marked (x, b)) marked
  same-member x b h =
      elim (list_any (is_same_marked (x, b)) marked) as (λ c. list_any (is_same_marked (x, b)) marked ≡ c → list_any (is_same_marked (x, b)) kept ≡ c) [
        | true ↦ (λ e. let l = is-listed marked needed (x, b) e h in at-in kept l.at (x, b) l.there)
        | false ↦ (λ e. elim (list_any (is_same_marked (x, b)) kept) as (λ d. list_any (is_same_marked (x, b)) kept ≡ d → d ≡ false) [
          | true ↦ (λ f. sym (member-back marked (x, b) needed f) ∙ e)
          | false ↦ (λ f. refl)
        ] refl)
      ] refl

  same-listings : (x : DecodedSource) → list_any (is_same_source x) needed ≡ true → listings kept x ≡ listings marked x
  same-listings x h =
      ap (λ c. listings_by c (list_any (is_same_marked (x, true)) kept) x) (same-member x false h) ∙ ap (λ d. listings_by (list_any (is_same_marked (x, false)) marked) d x) (same-member x true h)

  all-same : (xs : List DecodedSource) → AllByRecursion (λ x. list_any (is_same_source x) needed ≡ true) xs → flat_map (listings kept) xs ≡ flat_map (listings marked) xs
  all-same [] h = refl
  all-same (x ∷ xs) h = ap (λ ys. ys ++ flat_map (listings kept) xs) (same-listings x h.0) ∙ ap (λ ys. listings marked x ++ ys) (all-same xs h.1)

or-left : (a b : Bool) → a ≡ true → (a || b) ≡ true
or-left a b e = rw e refl

or-right : (a b : Bool) → b ≡ true → (a || b) ≡ true
or-right true b e = refl
or-right false b e = e

pub weaker : {A : Type 0} (P Q : A → Type 0) → ((x : A) → P x → Q x) → (xs : List A) → AllByRecursion P xs → AllByRecursion Q xs
weaker P Q f [] h = tt
weaker P Q f (x ∷ xs) h = (f x h.0, weaker P Q f xs h.1)

members : (xs : List DecodedSource) → AllByRecursion (λ x. list_any (is_same_source x) xs ≡ true) xs
members [] = tt
members (y ∷ ys) =
    (or-left (is_same_source y y) _ ((decides_source y y).1 refl), weaker (λ x. list_any (is_same_source x) ys ≡ true) (λ x. list_any (is_same_source x) (y ∷ ys) ≡ true) (λ x e. or-right (is_same_source x y) _ e) ys (members ys))

-- sources that are kept are kept again
pub kept-again : (marked : List (DecodedSource × Bool)) (needed : List DecodedSource) → flat_map (listings (flat_map (listings marked) needed)) needed ≡ flat_map (listings marked) needed
kept-again marked needed = all-same marked needed needed (members needed)

-- ---- tokens
module _ (r : MapRecord) where
  abbrev m : MapRecord
  m = simplified r

  abbrev sources : List (DecodedSource × Bool)
  sources = simple_sources_of r

  abbrev names : List Text
  names = simple_names r

  abbrev new : TokenRecord → TokenRecord
  new = renumbered r sources names

  pub marked-new : marked_in m ≡ sources
  marked-new = ap (λ ss. marked_from 0 ss (ignored_ids sources)) (sources-again sources) ∙ marked-again sources

  among : TokenRecord → Option (DecodedSource × Bool) → TokenRecord
  among t q = token_among sources names (name_of r.names t) t q

  pub marked-among : (t : TokenRecord) (q : Option (DecodedSource × Bool)) → Placed r (name_of r.names t) q → marked_source_of m (token_among sources names (name_of r.names t) t q) ≡ q
  marked-among t None h = refl
  marked-among t (Some x) h =
      ap (λ ms. option_and_then (slice_get ms) (index_of_marked x sources)) marked-new ∙ ap (option_and_then (slice_get sources)) h.0.is ∙ h.0.there

  stays-by : (t : TokenRecord) (q : Option (DecodedSource × Bool)) → Placed r (name_of r.names t) q
      → renumbered m sources names (token_among sources names (name_of r.names t) t q) ≡ token_among sources names (name_of r.names t) t q
  stays-by t None h = refl
  stays-by t (Some x) h =
      let u = token_among sources names (name_of r.names t) t (Some x) in
      ap (token_among sources names (name_of names u) u) (marked-among t (Some x) h) ∙ ap (λ n. token_among sources names n u (Some x)) (name-back names (name_of r.names t) h.1)

  new-stays : (t : TokenRecord) → IsReady r t → renumbered m sources names (new t) ≡ new t
  new-stays t h = stays-by t (marked_source_of r t) h

  pub tokens-stay : map (renumbered m sources names) m.tokens ≡ m.tokens
  tokens-stay = map-after new (renumbered m sources names) (simple_tokens r) ∙ map-as (IsReady r) (λ t. renumbered m sources names (new t)) new new-stays (simple_tokens r) (all-ready r)

  abbrev means : TokenRecord → DecodedMapping
  means = mapping_of (sources_of m.sources m.source_contents) m.names

  -- the tokens of the simplified map point to what the simple tokens point to
  pub points : map (original_in m) m.tokens ≡ map (original_in r) (simple_tokens r)
  points =
      let f : DecodedMapping → Option OriginalPosition = λ e. e.original in
      sym (map-after means f m.tokens)
      ∙ ap (λ s. map f s.mappings) (decoded_map_simplified r)
      ∙ ap (map f) (means-simple r)
      ∙ map-after (mapping_of (sources_of r.sources r.source_contents) r.names) f (simple_tokens r)

  module _ (sorted : are_tokens_sorted r.tokens ≡ true) where
    simple-stays : simple_mappings (decoded_map_of m).mappings ≡ (decoded_map_of m).mappings
    simple-stays =
        ap (λ s. simple_mappings s.mappings) (decoded_map_simplified r)
        ∙ mappings-stay (decoded_map_of r) (sorted-mappings (sources_of r.sources r.source_contents) r.names r.tokens ∙ sorted)
        ∙ sym (ap (λ s. s.mappings) (decoded_map_simplified r))

    count : length (simple_tokens m) ≡ length m.tokens
    count = sym (length-map (simple_tokens m) means) ∙ ap length (sym (means-simple m) ∙ simple-stays) ∙ length-map m.tokens means

    found-stay : found_tokens m ≡ m.tokens
    found-stay =
        let one = found-length token_line token_column [] m.tokens in
        let two = keep-length token_line token_column (are_alike_in m) token_at_next_column (is_after_repeat token_line token_column (are_alike_in m)) [] (found_tokens m) in
        found-all token_line token_column [] m.tokens (let c = count in omega (arith, one, two, c))

    simple-tokens-stay : simple_tokens m ≡ m.tokens
    simple-tokens-stay =
        let one = found-length token_line token_column [] m.tokens in
        let two = keep-length token_line token_column (are_alike_in m) token_at_next_column (is_after_repeat token_line token_column (are_alike_in m)) [] (found_tokens m) in
        keep-all token_line token_column (are_alike_in m) token_at_next_column (is_after_repeat token_line token_column (are_alike_in m)) (λ b y e. e) [] (found_tokens m) tt (let c = count in omega (arith, one, two, c))
        ∙ found-stay

    originals-stay : found_originals m ≡ map (original_in r) (simple_tokens r)
    originals-stay = ap (map (original_in m)) found-stay ∙ points

    names-stay : simple_names m ≡ names
    names-stay = ap (λ os. with_texts [] (filter_map name_in os)) originals-stay ∙ needs-names r

    needed-stay : needed_sources (found_originals m) ≡ needed_sources (found_originals r)
    needed-stay = ap needed_sources originals-stay ∙ needs-sources r

    sources-stay : simple_sources_of m ≡ sources
    sources-stay =
        ap (λ ms. flat_map (listings ms) (needed_sources (found_originals m))) marked-new
        ∙ ap (flat_map (listings sources)) needed-stay
        ∙ kept-again (marked_in r) (needed_sources (found_originals r))

    map-stays : simplified m ≡ m
    map-stays =
        let whole : List Text → List (DecodedSource × Bool) → List TokenRecord → MapRecord = λ names sources tokens. record r {
          names = names;
          sources = map (λ m. m.0.path) sources;
          source_contents = map (λ m. m.0.content) sources;
          tokens = tokens;
          token_chunks = None;
          ignore_list = ignored_ids sources;
        } in
        ap (λ ns. whole ns (simple_sources_of m) (map (renumbered m (simple_sources_of m) ns) (simple_tokens m))) names-stay
        ∙ ap (λ ss. whole names ss (map (renumbered m ss names) (simple_tokens m))) sources-stay
        ∙ ap (λ ts. whole names sources (map (renumbered m sources names) ts)) simple-tokens-stay
        ∙ ap (whole names sources) tokens-stay

pub simplifying_again : SimplifyingAgain
simplifying_again r h = map-stays r h

parts-by : (b c : Bool) (r m : MapRecord) → (if b then (if c then Ok (simplified r) else Err (Map TooLarge)) else Err Unsorted) ≡ Ok m → (b ≡ true) × (c ≡ true) × (simplified r ≡ m)
parts-by true true r m e = (refl, refl, cc (e))
parts-by true false r m e = absurd (cc (e))
parts-by false c r m e = absurd (cc (e))

-- what a simplification that succeeds says
pub simplified-by : (r m : MapRecord) → simplification r ≡ Ok m → (are_tokens_sorted r.tokens ≡ true) × (fits (simplified r) ≡ true) × (simplified r ≡ m)
simplified-by r m e = parts-by (are_tokens_sorted r.tokens) (fits (simplified r)) r m e

pub simplification_again : SimplificationAgain
simplification_again r m e =
    let p = simplified-by r m e in
    let s = simplified r in
    let stays = map-stays r p.0 in
    subst (λ m. simplification m ≡ Ok m) p.2
    (ap (λ b. if b then (if fits (simplified s) then Ok (simplified s) else Err (Map TooLarge)) else Err Unsorted) (simplified-sorted r p.0)
    ∙ ap (λ n. if fits n then Ok n else Err (Map TooLarge)) stays
    ∙ ap (λ b. if b then Ok s else Err (Map TooLarge)) p.1)
