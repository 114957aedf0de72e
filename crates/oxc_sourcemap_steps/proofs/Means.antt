-- What a simplified map means: the simplified decoded map.
use Rattle.std.proofs.Common.{◌≡◌, ℕ, Bool, true, false, cond, ◌&&◌, List, [], ◌∷◌, ◌++◌, map, refl}
use Rattle.std.proofs.Common.{sym, ap, ◌∙◌, subst, slice_get, Option, Some, None}
use Rattle.std.specs.List.{list_any, AllByRecursion}
use Rattle.std.specs.Option.{option_map, option_and_then}
use Rattle.std.proofs.lemmas.Option.{slice_get-map}
use Rattle.oxc_sourcemap_tokens.specs.Token.{TokenRecord}
use Rattle.oxc_sourcemap_parts.specs.DecodedMap.{DecodedSource, OriginalPosition, DecodedMapping}
use Rattle.oxc_sourcemap_parts.specs.DecodedMap.{DecodedMap, sources_of, name_of, original_at}
use Rattle.oxc_sourcemap_parts.specs.DecodedMap.{mapping_of, decoded_map_of, mapping_line}
use Rattle.oxc_sourcemap_parts.specs.DecodedMap.{mapping_column}
use Rattle.oxc_sourcemap_parts.specs.Record.{Text, MapRecord}
use Rattle.oxc_sourcemap_parts.specs.Sorted.{token_line, token_column}
use Rattle.oxc_sourcemap_lookup.specs.Trace.{original_in}
use Rattle.oxc_sourcemap_steps.proofs.InheritedNames.{IsPlaced}
use Rattle.oxc_sourcemap_steps.specs.Blocks.{marked_sources, ignored_ids}
use Rattle.oxc_sourcemap_steps.proofs.Flags.{marked-unmarked}
use Rattle.oxc_sourcemap_steps.proofs.NeededNames.{name-back}
use Rattle.oxc_sourcemap_steps.specs.Same.{point_alike}
use Rattle.oxc_sourcemap_steps.specs.Simple.{is_further, is_followed, found_after, are_together}
use Rattle.oxc_sourcemap_steps.specs.Simple.{is_repeat, is_after_repeat, kept_after}
use Rattle.oxc_sourcemap_steps.specs.Simplified.{at_next_column, simple_mappings, index_of_marked}
use Rattle.oxc_sourcemap_steps.specs.Simplified.{is_same_marked, source_in, needed_sources}
use Rattle.oxc_sourcemap_steps.specs.Simplified.{simple_sources, pointed_to, simplified_decoded_map}
use Rattle.oxc_sourcemap_steps.specs.Simplified.{found_tokens, found_originals, are_alike_in}
use Rattle.oxc_sourcemap_steps.specs.Simplified.{token_at_next_column, simple_tokens, name_in}
use Rattle.oxc_sourcemap_steps.specs.Simplified.{simple_names, simple_sources_of, marked_source_of}
use Rattle.oxc_sourcemap_steps.specs.Simplified.{token_among, renumbered, simplified}
use Rattle.oxc_sourcemap_steps.proofs.NeededPlaces.{In, Listed, is-listed, at-in, all-needed}
use Rattle.oxc_sourcemap_steps.proofs.NeededPlaces.{all-named}

-- ---- lists of what items stand for
module _ {A B : Type 0} (f : A → B) (line column : B → ℕ) where
  further-map : (before : List A) (y : A) → is_further line column (map f before) (f y) ≡ is_further (λ x. line (f x)) (λ x. column (f x)) before y
  further-map [] y = refl
  further-map (x ∷ before) y = refl

  followed-map : (x : A) (after : List A) → is_followed line column (f x) (map f after) ≡ is_followed (λ x. line (f x)) (λ x. column (f x)) x after
  followed-map x [] = refl
  followed-map x (y ∷ after) = refl

  kept-if : (b : Bool) (x : A) (xs : List A) → cond b (map f xs) (f x ∷ map f xs) ≡ map f (cond b xs (x ∷ xs))
  kept-if true x xs = refl
  kept-if false x xs = refl

  -- the items that a lookup may find
  pub found-map : (before xs : List A) → found_after line column (map f before) (map f xs) ≡ map f (found_after (λ x. line (f x)) (λ x. column (f x)) before xs)
  found-map before [] = refl
  found-map before (x ∷ xs) =
      let L : A → ℕ = λ x. line (f x) in
      let C : A → ℕ = λ x. column (f x) in
      let ys = found_after line column (f x ∷ map f before) (map f xs) in
      ap (λ b. cond (b && is_followed line column (f x) (map f xs)) ys (f x ∷ ys)) (further-map before x)
      ∙ ap (λ b. cond (is_further L C before x && b) ys (f x ∷ ys)) (followed-map x xs)
      ∙ ap (λ zs. cond (is_further L C before x && is_followed L C x xs) zs (f x ∷ zs)) (found-map (x ∷ before) xs)
      ∙ kept-if (is_further L C before x && is_followed L C x xs) x (found_after L C (x ∷ before) xs)

  module _ (same : B → B → Bool) (move : B → B) (step : A → A) (move-map : (x : A) → f (step x) ≡ move (f x)) where
    repeat-map : (before : List A) (y : A) → is_repeat line same (map f before) (f y) ≡ is_repeat (λ x. line (f x)) (λ x y. same (f x) (f y)) before y
    repeat-map [] y = refl
    repeat-map (x ∷ before) y = refl

    after-map : (before : List A) (y : A) → is_after_repeat line column same (map f before) (f y) ≡ is_after_repeat (λ x. line (f x)) (λ x. column (f x)) (λ x y. same (f x) (f y)) before y
    after-map [] y = refl
    after-map (x ∷ before) y = ap (λ b. are_together line column (f x) (f y) && b) (repeat-map before x)

    moved-if : (b : Bool) (y : A) → cond b (move (f y)) (f y) ≡ f (cond b (step y) y)
    moved-if true y = sym (move-map y)
    moved-if false y = refl

    put-if : (b : Bool) (y : A) (ys : List A) → cond b [] (f y ∷ []) ++ map f ys ≡ map f (cond b [] (y ∷ []) ++ ys)
    put-if true y ys = refl
    put-if false y ys = refl

    -- those that are kept
    pub kept-map : (before xs : List A) → kept_after line same move (is_after_repeat line column same) (map f before) (map f xs)
        ≡ map f (kept_after (λ x. line (f x)) (λ x y. same (f x) (f y)) step (is_after_repeat (λ x. line (f x)) (λ x. column (f x)) (λ x y. same (f x) (f y))) before xs)
    kept-map before [] = refl
    kept-map before (y ∷ ys) =
        let L : A → ℕ = λ x. line (f x) in
        let S : A → A → Bool = λ x y. same (f x) (f y) in
        let moves : List A → A → Bool = is_after_repeat (λ x. line (f x)) (λ x. column (f x)) (λ x y. same (f x) (f y)) in
        let zs = kept_after line same move (is_after_repeat line column same) (f y ∷ map f before) (map f ys) in
        ap (λ b. cond b [] ((cond (is_after_repeat line column same (map f before) (f y)) (move (f y)) (f y)) ∷ []) ++ zs) (repeat-map before y)
        ∙ ap (λ b. cond (is_repeat L S before y) [] ((cond b (move (f y)) (f y)) ∷ []) ++ zs) (after-map before y)
        ∙ ap (λ z. cond (is_repeat L S before y) [] (z ∷ []) ++ zs) (moved-if (moves before y) y)
        ∙ ap (λ zs. cond (is_repeat L S before y) [] (f (cond (moves before y) (step y) y) ∷ []) ++ zs) (kept-map (y ∷ before) ys)
        ∙ put-if (is_repeat L S before y) (cond (moves before y) (step y) y) (kept_after L S step moves (y ∷ before) ys)

-- what holds of all items holds of those that a lookup may find
pub found-has : {A : Type 0} (line column : A → ℕ) (P : A → Type 0) (before xs : List A) → AllByRecursion P xs → AllByRecursion P (found_after line column before xs)
found-has line column P before [] h = tt
found-has line column P before (x ∷ xs) h =
    let more = found-has line column P (x ∷ before) xs h.1 in
    elim (is_further line column before x && is_followed line column x xs) as (λ b. AllByRecursion P (cond b (found_after line column (x ∷ before) xs) (x ∷ found_after line column (x ∷ before) xs))) [
      | true ↦ more
      | false ↦ (h.0, more)
    ]

-- what holds of all items, moved or not, holds of those that are kept
module _ {A : Type 0} (line column : A → ℕ) (same : A → A → Bool) (move : A → A) (moves : List A → A → Bool) (P : A → Type 0) (moved : (x : A) → P x → P (move x)) where
  pub kept-has : (before xs : List A) → AllByRecursion P xs → AllByRecursion P (kept_after line same move moves before xs)
  kept-has before [] h = tt
  kept-has before (y ∷ ys) h =
      let more = kept-has (y ∷ before) ys h.1 in
      elim (is_repeat line same before y) as (λ b. AllByRecursion P (cond b [] ((cond (moves before y) (move y) y) ∷ []) ++ kept_after line same move moves (y ∷ before) ys)) [
        | true ↦ more
        | false ↦ (
          elim (moves before y) as (λ b. P (cond b (move y) y)) [
            | true ↦ moved y h.0
            | false ↦ h.0
          ],
          more,
        )
      ]

pub unmapped : {A B : Type 0} (P : B → Type 0) (f : A → B) (xs : List A) → AllByRecursion P (map f xs) → AllByRecursion (λ x. P (f x)) xs
unmapped P f [] h = tt
unmapped P f (x ∷ xs) h = (h.0, unmapped P f xs h.1)

pub map-as : {A B : Type 0} (P : A → Type 0) (f g : A → B) → ((x : A) → P x → f x ≡ g x) → (xs : List A) → AllByRecursion P xs → map f xs ≡ map g xs
map-as P f g e [] h = refl
map-as P f g e (x ∷ xs) h = ap (λ y. y ∷ map f xs) (e x h.0) ∙ ap (λ ys. g x ∷ ys) (map-as P f g e xs h.1)

pub map-after : {A B C : Type 0} (f : A → B) (g : B → C) (xs : List A) → map g (map f xs) ≡ map (λ x. g (f x)) xs
map-after f g [] = refl
map-after f g (x ∷ xs) = ap (λ ys. g (f x) ∷ ys) (map-after f g xs)

-- the two lists of sources give the sources again
pub sources-again : (ms : List (DecodedSource × Bool)) → sources_of (map (λ m. m.0.path) ms) (map (λ m. m.0.content) ms) ≡ map (λ m. m.0) ms
sources-again [] = refl
sources-again (m ∷ ms) = ap (λ zs. m.0 ∷ zs) (sources-again ms)

-- ---- what lookups may find of a map
module _ (r : MapRecord) where
  abbrev means : TokenRecord → DecodedMapping
  means = mapping_of (sources_of r.sources r.source_contents) r.names

  -- a lookup may find the mappings that these tokens mean, so that both point to the same
  pub points-same : pointed_to (decoded_map_of r) ≡ found_originals r
  points-same =
      ap (map (λ (e : DecodedMapping). e.original)) (found-map means mapping_line mapping_column [] r.tokens)
      ∙ map-after means (λ e. e.original) (found_tokens r)

  -- and the simple ones are what the simple tokens mean
  pub means-simple : simple_mappings (decoded_map_of r).mappings ≡ map means (simple_tokens r)
  means-simple =
      ap (kept_after mapping_line point_alike at_next_column (is_after_repeat mapping_line mapping_column point_alike) []) (found-map means mapping_line mapping_column [] r.tokens)
      ∙ kept-map means mapping_line mapping_column point_alike at_next_column token_at_next_column (λ t. refl) [] (found_tokens r)

  -- ---- ids of simple tokens
  abbrev marked : List (DecodedSource × Bool)
  marked = marked_sources (decoded_map_of r)

  abbrev sources : List (DecodedSource × Bool)
  sources = simple_sources_of r

  abbrev names : List Text
  names = simple_names r

  -- what a token points to, by its marked source
  abbrev pub points : TokenRecord → Option (DecodedSource × Bool) → Option OriginalPosition
  points t q = option_map (original_at r.names t) (option_map (λ m. m.0) q)

  source-by : (id : Option ℕ) → option_and_then (slice_get (sources_of r.sources r.source_contents)) id ≡ option_map (λ m. m.0) (option_and_then (slice_get marked) id)
  source-by None = refl
  source-by (Some i) =
      ap (λ ss. slice_get ss i) (sym (marked-unmarked 0 (sources_of r.sources r.source_contents) r.ignore_list)) ∙ slice_get-map (λ (m : DecodedSource × Bool). m.0) marked i

  points-by : (t : TokenRecord) → original_in r t ≡ points t (marked_source_of r t)
  points-by t = ap (option_map (original_at r.names t)) (source-by t.source_id)

  -- a marked source that is listed, with a name that is listed too
  abbrev pub Placed : Option Text → Option (DecodedSource × Bool) → Type 0
  Placed name None = Unit {0}
  Placed name (Some m) = Listed m sources × IsPlaced names name

  abbrev pub Marked : Option (DecodedSource × Bool) → Type 0
  Marked None = Unit {0}
  Marked (Some m) = list_any (is_same_marked m) marked ≡ true

  marked-at : (id : Option ℕ) → Marked (option_and_then (slice_get marked) id)
  marked-at None = tt
  marked-at (Some i) = elim (slice_get marked i) as (λ q. slice_get marked i ≡ q → Marked q) [
    | None ↦ (λ e. tt)
    | Some m ↦ (λ e. at-in marked i m e)
  ] refl

  placed-by : (t : TokenRecord) (q : Option (DecodedSource × Bool)) → Marked q → In (needed_sources (found_originals r)) (source_in (points t q)) → IsPlaced names (name_in (points t q)) → Placed (name_of r.names t) q
  placed-by t None m s n = tt
  placed-by t (Some source) m s n = (is-listed marked (needed_sources (found_originals r)) source m s, n)

  abbrev pub IsReady : TokenRecord → Type 0
  IsReady t = Placed (name_of r.names t) (marked_source_of r t)

  ready-by : (t : TokenRecord) → In (needed_sources (found_originals r)) (source_in (original_in r t)) × IsPlaced names (name_in (original_in r t)) → IsReady t
  ready-by t h =
      let k = subst (λ o. In (needed_sources (found_originals r)) (source_in o) × IsPlaced names (name_in o)) (points-by t) h in
      placed-by t (marked_source_of r t) (marked-at t.source_id) k.0 k.1

  both : (ts : List TokenRecord) → AllByRecursion (λ o. In (needed_sources (found_originals r)) (source_in o)) (map (original_in r) ts) → AllByRecursion (λ o. IsPlaced names (name_in o)) (map (original_in r) ts)
      → AllByRecursion IsReady ts
  both [] h k = tt
  both (t ∷ ts) h k = (ready-by t (h.0, k.0), both ts h.1 k.1)

  pub all-ready : AllByRecursion IsReady (simple_tokens r)
  all-ready =
      kept-has token_line token_column (are_alike_in r) token_at_next_column (is_after_repeat token_line token_column (are_alike_in r)) IsReady (λ t h. h) [] (found_tokens r)
      (both (found_tokens r) (all-needed (found_originals r)) (all-named (found_originals r)))

  -- ---- what renumbered tokens mean
  at-source : (m : DecodedSource × Bool) (i : ℕ) → slice_get sources i ≡ Some m → slice_get (map (λ (m : DecodedSource × Bool). m.0) sources) i ≡ Some m.0
  at-source m i e = slice_get-map (λ (m : DecodedSource × Bool). m.0) sources i ∙ ap (option_map (λ (m : DecodedSource × Bool). m.0)) e

  means-among : (t : TokenRecord) (q : Option (DecodedSource × Bool)) → Placed (name_of r.names t) q
      → mapping_of (map (λ m. m.0) sources) names (token_among sources names (name_of r.names t) t q) ≡ record { dst_line = t.dst_line; dst_col = t.dst_col; original = points t q }
  means-among t None h = refl
  means-among t (Some m) h =
      let at : Option ℕ → Option Text → DecodedMapping = λ id name. record { dst_line = t.dst_line; dst_col = t.dst_col; original = option_map (λ s. record { source = s; src_line = t.src_line; src_col = t.src_col; name = name }) (option_and_then (slice_get (map (λ m. m.0) sources)) id) } in
      ap (at (index_of_marked m sources)) (name-back names (name_of r.names t) h.1)
      ∙ ap (λ id. at id (name_of r.names t)) h.0.is
      ∙ ap (λ s. record { dst_line = t.dst_line; dst_col = t.dst_col; original = option_map (λ s. record { source = s; src_line = t.src_line; src_col = t.src_col; name = name_of r.names t }) s }) (at-source m h.0.at h.0.there)

  means-renumbered : (t : TokenRecord) → IsReady t → mapping_of (map (λ m. m.0) sources) names (renumbered r sources names t) ≡ means t
  means-renumbered t h =
      means-among t (marked_source_of r t) h ∙ sym (ap (λ o. record { dst_line = t.dst_line; dst_col = t.dst_col; original = o }) (points-by t))

  -- ---- the whole map
  pub decoded_map_simplified : decoded_map_of (simplified r) ≡ simplified_decoded_map (decoded_map_of r)
  decoded_map_simplified =
      let whole : List (DecodedSource × Bool) → List DecodedSource → List DecodedMapping → DecodedMap =
      λ ms ss es. record { file = r.file; source_root = r.source_root; debug_id = r.debug_id; ignore_list = ignored_ids ms; sources = ss; mappings = es } in
      ap (λ ss. whole sources ss (map (mapping_of ss names) (map (renumbered r sources names) (simple_tokens r)))) (sources-again sources)
      ∙ ap (whole sources (map (λ m. m.0) sources)) (map-after (renumbered r sources names) (mapping_of (map (λ m. m.0) sources) names) (simple_tokens r)
      ∙ map-as IsReady _ means means-renumbered (simple_tokens r) all-ready ∙ sym means-simple)
      ∙ ap (λ os. let ms = simple_sources marked os in whole ms (map (λ m. m.0) ms) (simple_mappings (decoded_map_of r).mappings)) (sym points-same)
