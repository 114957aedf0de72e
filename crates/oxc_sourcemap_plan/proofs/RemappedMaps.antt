-- The laws of remapped decoded maps.
use Rattle.std.proofs.Common.{◌≡◌, refl, sym, ap, subst, ◌∙◌, ℕ, Bool, true, false, cond, List, []}
use Rattle.std.proofs.Common.{◌∷◌, ◌++◌, map, length, Option, Some, None}
use Rattle.std.proofs.lemmas.Grind.{flat_map-append}
use Rattle.std.proofs.lemmas.List.{map-append, append-nil}
use Rattle.std.specs.Cmp.Lexicographic.{bytes_decides}
use Rattle.std.specs.List.{flat_map}
use Rattle.std.specs.Option.{IfSome, option_map, option_and_then, option_or}
use Rattle.std.specs.Str.{bytes_eq}
use Rattle.oxc_sourcemap_tokens.specs.declared.position.Position.{Position}
use Rattle.oxc_sourcemap_parts.specs.Record.{Text}
use Rattle.oxc_sourcemap_parts.specs.DecodedMap.{DecodedSource, OriginalPosition, DecodedMapping}
use Rattle.oxc_sourcemap_parts.specs.DecodedMap.{DecodedMap, mapping_line, mapping_column}
use Rattle.oxc_sourcemap_join.specs.Joined.{raised_ignore_list, appended_ignore_lists}
use Rattle.oxc_sourcemap_lookup.specs.Lookup.{clamped_pick}
use Rattle.oxc_sourcemap_lookup.proofs.Picks.{clamped_pick-map}
use Rattle.oxc_sourcemap_steps.specs.Blocks.{sources_by, sources_for, remapped_sources, is_listed}
use Rattle.oxc_sourcemap_steps.specs.Blocks.{marked_from, marked_sources, marked_by, marked_for}
use Rattle.oxc_sourcemap_steps.specs.Blocks.{ignored_ids, remapped_ignore_list}
use Rattle.oxc_sourcemap_steps.specs.Inputs.{input_for}
use Rattle.oxc_sourcemap_steps.proofs.InputPlaces.{input_for-map}
use Rattle.oxc_sourcemap_plan.specs.Repeats.{without_repeats, is_same_mapping, EqualUpToRepeats}
use Rattle.oxc_sourcemap_plan.specs.JoinedDecodedMaps.{lowered, joined_ignore_lists}
use Rattle.oxc_sourcemap_plan.specs.JoinedDecodedMaps.{joined_decoded_maps}
use Rattle.oxc_sourcemap_plan.specs.ComposedDecodedMaps.{found_original, named_by, original_through}
use Rattle.oxc_sourcemap_plan.specs.ComposedDecodedMaps.{composed_mapping, composed_decoded_maps}
use Rattle.oxc_sourcemap_plan.specs.RemappedDecodedMaps.{original_through_input, remapped_original}
use Rattle.oxc_sourcemap_plan.specs.RemappedDecodedMaps.{remapped_mapping, remapped_decoded_map}
use Rattle.oxc_sourcemap_plan.specs.RemapLaws.{as_remapped, inputs_through, PointsInto}
use Rattle.oxc_sourcemap_plan.specs.RemapLaws.{AreIgnoredInRange, AreInputsEqualUpToRepeats}
use Rattle.oxc_sourcemap_plan.proofs.Blocks.{flat_map-twice, flat_map-same, flat_map-self}
use Rattle.oxc_sourcemap_plan.proofs.Blocks.{input_for-append}
use Rattle.oxc_sourcemap_plan.proofs.DroppingRepeats.{clamped_pick_up_to_repeats}
use Rattle.oxc_sourcemap_plan.proofs.IgnoredSources.{marked_remapped, count_marked}
use Rattle.oxc_sourcemap_plan.proofs.IgnoredSources.{ignore_list_append, marked_after}
use Rattle.oxc_sourcemap_plan.proofs.JoinDecodedMaps.{map_within}
use Rattle.oxc_sourcemap_plan.proofs.Joins.{map_same, map_twice}
use Rattle.oxc_sourcemap_plan.proofs.Same.{decides_entry}
use Rattle.oxc_sourcemap_plan.proofs.UpToRepeats.{map_up_to_repeats, Matches, matches}
use Rattle.oxc_sourcemap_plan.proofs.UpToRepeats.{up_to_repeats}

-- ---- names
or-assoc : {A : Type 0} (p q r : Option A) → option_or p (option_or q r) ≡ option_or (option_or p q) r
or-assoc None q r = refl
or-assoc (Some x) q r = refl

named-twice : (o p : OriginalPosition) (f : Option OriginalPosition) → option_map (named_by o) (option_map (named_by p) f) ≡ option_map (named_by (named_by o p)) f
named-twice o p None = refl
named-twice o p (Some q) = ap (λ n. Some (record q { name = n })) (sym (or-assoc q.name p.name o.name))

-- what is found may be named before it is followed on
named-through : (cs : List (Text × DecodedMap)) (o p : OriginalPosition) → remapped_original cs (named_by o p) ≡ option_map (named_by o) (remapped_original cs p)
named-through cs o p =
    elim (input_for cs p.source.path) as (λ (q : Option DecodedMap). original_through_input q (named_by o p) ≡ option_map (named_by o) (original_through_input q p)) [
      | None ↦ refl
      | Some c ↦ sym (named-twice o p (found_original c.mappings p))
    ]

-- so what is found in a map and followed on is found in the remapped map
through-found : (cs : List (Text × DecodedMap)) (o : OriginalPosition) (q : Option DecodedMapping)
    → option_and_then (remapped_original cs) (option_map (named_by o) (option_and_then (λ e. e.original) q)) ≡ option_map (named_by o) (option_and_then (λ e. e.original) (option_map (remapped_mapping cs) q))
through-found cs o None = refl
through-found cs o (Some e) =
    elim e.original as (λ (x : Option OriginalPosition). option_and_then (remapped_original cs) (option_map (named_by o) x) ≡ option_map (named_by o) (option_and_then (remapped_original cs) x)) [
      | None ↦ refl
      | Some p ↦ named-through cs o p
    ]

through-remapped : (cs : List (Text × DecodedMap)) (bs : List DecodedMapping) (o : OriginalPosition)
    → option_and_then (remapped_original cs) (original_through bs o) ≡ original_through (map (remapped_mapping cs) bs) o
through-remapped cs bs o =
    through-found cs o (clamped_pick mapping_line mapping_column bs o.src_line o.src_col)
    ∙ ap (λ q. option_map (named_by o) (option_and_then (λ e. e.original) q)) (sym (clamped_pick-map (remapped_mapping cs) mapping_line mapping_column bs o.src_line o.src_col))

-- ---- association
module _ (bs cs : List (Text × DecodedMap)) where
  abbrev through : DecodedMap → DecodedMap
  through b = remapped_decoded_map b cs

  input-through : (path : Text) → input_for (inputs_through bs cs) path ≡ option_or (option_map through (input_for bs path)) (input_for cs path)
  input-through path = input_for-append (map (λ b. (b.0, through b.1)) bs) cs path ∙ ap (λ o. option_or o (input_for cs path)) (input_for-map through bs path)

  original-assoc : (o : OriginalPosition) → option_and_then (remapped_original cs) (remapped_original bs o) ≡ remapped_original (inputs_through bs cs) o
  original-assoc o =
      elim (input_for bs o.source.path) as (λ (q : Option DecodedMap). option_and_then (remapped_original cs) (original_through_input q o) ≡ original_through_input (option_or (option_map through q) (input_for cs o.source.path)) o) [
        | None ↦ refl
        | Some b ↦ through-remapped cs b.mappings o
      ]
      ∙ ap (λ q. original_through_input q o) (sym (input-through o.source.path))

  mapping-assoc : (e : DecodedMapping) → remapped_mapping cs (remapped_mapping bs e) ≡ remapped_mapping (inputs_through bs cs) e
  mapping-assoc e =
      elim e.original as (λ (x : Option OriginalPosition). ◌≡◌ {A = DecodedMapping} (record { dst_line = e.dst_line; dst_col = e.dst_col; original = option_and_then (remapped_original cs) (option_and_then (remapped_original bs) x) }) (record { dst_line = e.dst_line; dst_col = e.dst_col; original = option_and_then (remapped_original (inputs_through bs cs)) x })) [
        | None ↦ refl
        | Some o ↦ ap (λ x. record { dst_line = e.dst_line; dst_col = e.dst_col; original = x }) (original-assoc o)
      ]

  source-assoc : (s : DecodedSource) → flat_map (sources_for cs) (sources_for bs s) ≡ sources_for (inputs_through bs cs) s
  source-assoc s =
      elim (input_for bs s.path) as (λ (q : Option DecodedMap). flat_map (sources_for cs) (sources_by q s) ≡ sources_by (option_or (option_map through q) (input_for cs s.path)) s) [
        | None ↦ append-nil (sources_for cs s)
        | Some b ↦ refl
      ]
      ∙ ap (λ q. sources_by q s) (sym (input-through s.path))

  mark-assoc : (m : DecodedSource × Bool) → flat_map (marked_for cs) (marked_for bs m) ≡ marked_for (inputs_through bs cs) m
  mark-assoc m =
      elim (input_for bs m.0.path) as (λ (q : Option DecodedMap). flat_map (marked_for cs) (marked_by q m) ≡ marked_by (option_or (option_map through q) (input_for cs m.0.path)) m) [
        | None ↦ append-nil (marked_for cs m)
        | Some b ↦ sym (marked_remapped cs b)
      ]
      ∙ ap (λ q. marked_by q m) (sym (input-through m.0.path))

  pub remappings_associative : (a : DecodedMap) → remapped_decoded_map (remapped_decoded_map a bs) cs ≡ remapped_decoded_map a (inputs_through bs cs)
  remappings_associative a =
      let whole : Option (List ℕ) → List DecodedSource → List DecodedMapping → DecodedMap = λ l ss es. record { file = a.file; source_root = None; debug_id = a.debug_id; ignore_list = l; sources = ss; mappings = es } in
      let sources : remapped_sources cs (remapped_sources bs a.sources) ≡ remapped_sources (inputs_through bs cs) a.sources = flat_map-twice (sources_for bs) (sources_for cs) (sources_for (inputs_through bs cs)) source-assoc a.sources in
      let marks : flat_map (marked_for cs) (marked_sources (remapped_decoded_map a bs)) ≡ flat_map (marked_for (inputs_through bs cs)) (marked_sources a) =
      ap (flat_map (marked_for cs)) (marked_remapped bs a) ∙ flat_map-twice (marked_for bs) (marked_for cs) (marked_for (inputs_through bs cs)) mark-assoc (marked_sources a) in
      let mappings = map_twice (remapped_mapping bs) (remapped_mapping cs) (remapped_mapping (inputs_through bs cs)) mapping-assoc a.mappings in
      ap (λ l. whole l (remapped_sources cs (remapped_sources bs a.sources)) (map (remapped_mapping cs) (map (remapped_mapping bs) a.mappings))) (ap ignored_ids marks)
      ∙ ap (λ ss. whole (remapped_ignore_list (inputs_through bs cs) a) ss (map (remapped_mapping cs) (map (remapped_mapping bs) a.mappings))) sources
      ∙ ap (whole (remapped_ignore_list (inputs_through bs cs) a) (remapped_sources (inputs_through bs cs) a.sources)) mappings

-- ---- composition
composed-mapping : (inputs : List (Text × DecodedMap)) (bs : List DecodedMapping) (e : DecodedMapping) → remapped_mapping inputs (composed_mapping bs e) ≡ composed_mapping (map (remapped_mapping inputs) bs) e
composed-mapping inputs bs e =
    elim e.original as (λ (x : Option OriginalPosition). ◌≡◌ {A = DecodedMapping} (record { dst_line = e.dst_line; dst_col = e.dst_col; original = option_and_then (remapped_original inputs) (option_and_then (original_through bs) x) }) (record { dst_line = e.dst_line; dst_col = e.dst_col; original = option_and_then (original_through (map (remapped_mapping inputs) bs)) x })) [
      | None ↦ refl
      | Some o ↦ ap (λ x. record { dst_line = e.dst_line; dst_col = e.dst_col; original = x }) (through-remapped inputs bs o)
    ]

pub composition_remapped : (m a : DecodedMap) (inputs : List (Text × DecodedMap)) → composed_decoded_maps m (remapped_decoded_map a inputs) ≡ remapped_decoded_map (composed_decoded_maps m a) inputs
composition_remapped m a inputs =
    ap (λ es. record { file = m.file; source_root = None; debug_id = m.debug_id; ignore_list = remapped_ignore_list inputs a; sources = remapped_sources inputs a.sources; mappings = es })
    (sym (map_twice (composed_mapping a.mappings) (remapped_mapping inputs) (composed_mapping (map (remapped_mapping inputs) a.mappings)) (composed-mapping inputs a.mappings) m.mappings))

-- ---- no input, and one
pub map-self : {A : Type 0} (f : A → A) → ((x : A) → f x ≡ x) → (xs : List A) → map f xs ≡ xs
map-self f e [] = refl
map-self f e (x ∷ xs) = ap (λ y. y ∷ map f xs) (e x) ∙ ap (λ ys. x ∷ ys) (map-self f e xs)

mapping-stays : (e : DecodedMapping) → remapped_mapping [] e ≡ e
mapping-stays e =
    elim e.original as (λ (x : Option OriginalPosition). ◌≡◌ {A = DecodedMapping} (record { dst_line = e.dst_line; dst_col = e.dst_col; original = option_and_then (remapped_original []) x }) (record { dst_line = e.dst_line; dst_col = e.dst_col; original = x })) [
      | None ↦ refl
      | Some o ↦ refl
    ]

pub nothing_remapped : (a : DecodedMap) → remapped_decoded_map a [] ≡ as_remapped a
nothing_remapped a =
    let whole : Option (List ℕ) → List DecodedSource → List DecodedMapping → DecodedMap = λ l ss es. record { file = a.file; source_root = None; debug_id = a.debug_id; ignore_list = l; sources = ss; mappings = es } in
    ap (λ ms. whole (ignored_ids ms) (remapped_sources [] a.sources) (map (remapped_mapping []) a.mappings)) (flat_map-self (marked_for []) (λ m. refl) (marked_sources a))
    ∙ ap (λ ss. whole (ignored_ids (marked_sources a)) ss (map (remapped_mapping []) a.mappings)) (flat_map-self (sources_for []) (λ s. refl) a.sources)
    ∙ ap (whole (ignored_ids (marked_sources a)) a.sources) (map-self (remapped_mapping []) mapping-stays a.mappings)

module _ (a b : DecodedMap) (s : DecodedSource) (others : List (Text × DecodedMap)) where
  abbrev inputs : List (Text × DecodedMap)
  inputs = (s.path, b) ∷ others

  first-input : (path : Text) → path ≡ s.path → input_for inputs path ≡ Some b
  first-input path e = let t : bytes_eq path s.path ≡ true = (bytes_decides path s.path).1 e in ap (λ c. cond c (Some b) (input_for others path)) t

  one-original : (e : DecodedMapping) (x : Option OriginalPosition) → IfSome x (λ o. o.source.path ≡ s.path)
      → ◌≡◌ {A = DecodedMapping} (record { dst_line = e.dst_line; dst_col = e.dst_col; original = option_and_then (remapped_original inputs) x }) (record { dst_line = e.dst_line; dst_col = e.dst_col; original = option_and_then (original_through b.mappings) x })
  one-original e None h = refl
  one-original e (Some o) h = ap (λ q. record { dst_line = e.dst_line; dst_col = e.dst_col; original = original_through_input q o }) (first-input o.source.path h)

  pub one_remapped : a.sources ≡ s ∷ [] → PointsInto s.path a → remapped_decoded_map a inputs ≡ as_remapped (composed_decoded_maps a b)
  one_remapped e h =
      let whole : Option (List ℕ) → List DecodedSource → List DecodedMapping → DecodedMap = λ l ss es. record { file = a.file; source_root = None; debug_id = a.debug_id; ignore_list = l; sources = ss; mappings = es } in
      let marks : flat_map (marked_for inputs) (marked_sources a) ≡ marked_sources b =
      ap (λ ss. flat_map (marked_for inputs) (marked_from 0 ss a.ignore_list)) e ∙ ap (λ q. marked_by q (s, is_listed a.ignore_list 0) ++ []) (first-input s.path refl) ∙ append-nil (marked_sources b) in
      let sources : remapped_sources inputs a.sources ≡ b.sources = ap (remapped_sources inputs) e ∙ ap (λ q. sources_by q s ++ []) (first-input s.path refl) ∙ append-nil b.sources in
      ap (λ ms. whole (ignored_ids ms) (remapped_sources inputs a.sources) (map (remapped_mapping inputs) a.mappings)) marks
      ∙ ap (λ ss. whole (ignored_ids (marked_sources b)) ss (map (remapped_mapping inputs) a.mappings)) sources
      ∙ ap (whole (ignored_ids (marked_sources b)) b.sources) (map_within (λ e. IfSome e.original (λ o. o.source.path ≡ s.path)) (remapped_mapping inputs) (composed_mapping b.mappings) (λ e h. one-original e e.original h) a.mappings h)

-- ---- joins
module _ (inputs : List (Text × DecodedMap)) where
  abbrev each : List (DecodedMap × Position) → List (DecodedMap × Position)
  each ss = map (λ s. (remapped_decoded_map s.0 inputs, s.1)) ss

  join-mappings : (ss : List (DecodedMap × Position)) → map (remapped_mapping inputs) (joined_decoded_maps ss).mappings ≡ (joined_decoded_maps (each ss)).mappings
  join-mappings [] = refl
  join-mappings (s ∷ ss) =
      let f = remapped_mapping inputs in
      map-append f (map (lowered s.1) s.0.mappings) (joined_decoded_maps ss).mappings
      ∙ ap (λ es. es ++ map f (joined_decoded_maps ss).mappings) (map_twice (lowered s.1) f (λ e. f (lowered s.1 e)) (λ e. refl) s.0.mappings ∙ sym (map_twice f (lowered s.1) (λ e. f (lowered s.1 e)) (λ e. refl) s.0.mappings))
      ∙ ap (λ es. map (lowered s.1) (map f s.0.mappings) ++ es) (join-mappings ss)

  join-sources : (ss : List (DecodedMap × Position)) → remapped_sources inputs (joined_decoded_maps ss).sources ≡ (joined_decoded_maps (each ss)).sources
  join-sources [] = refl
  join-sources (s ∷ ss) = flat_map-append (sources_for inputs) s.0.sources (joined_decoded_maps ss).sources ∙ ap (λ zs. remapped_sources inputs s.0.sources ++ zs) (join-sources ss)

  join-lists : (ss : List (DecodedMap × Position)) → AreIgnoredInRange ss → remapped_ignore_list inputs (joined_decoded_maps ss) ≡ joined_ignore_lists (each ss)
  join-lists [] h = refl
  join-lists (s ∷ ss) h =
      let rest = joined_decoded_maps ss in
      let g = flat_map (marked_for inputs) in
      let marks : g (marked_sources (joined_decoded_maps (s ∷ ss))) ≡ g (marked_sources s.0) ++ g (marked_sources rest) =
      ap g (marked_after s.0.sources rest.sources s.0.ignore_list rest.ignore_list h.0) ∙ flat_map-append (marked_for inputs) (marked_sources s.0) (marked_sources rest) in
      ap ignored_ids marks ∙ ignore_list_append (g (marked_sources s.0)) (g (marked_sources rest))
      ∙ ap (λ n. appended_ignore_lists (remapped_ignore_list inputs s.0) (raised_ignore_list n (remapped_ignore_list inputs rest))) (count_marked inputs s.0)
      ∙ ap (λ l. appended_ignore_lists (remapped_ignore_list inputs s.0) (raised_ignore_list (length (remapped_sources inputs s.0.sources)) l)) (join-lists ss h.1)

  pub join_remapped : (ss : List (DecodedMap × Position)) → AreIgnoredInRange ss → remapped_decoded_map (joined_decoded_maps ss) inputs ≡ joined_decoded_maps (each ss)
  join_remapped ss h =
      let whole : Option (List ℕ) → List DecodedSource → List DecodedMapping → DecodedMap = λ l ss es. record { file = None; source_root = None; debug_id = None; ignore_list = l; sources = ss; mappings = es } in
      let s = joined_decoded_maps ss in
      ap (λ l. whole l (remapped_sources inputs s.sources) (map (remapped_mapping inputs) s.mappings)) (join-lists ss h)
      ∙ ap (λ zs. whole (joined_ignore_lists (each ss)) zs (map (remapped_mapping inputs) s.mappings)) (join-sources ss)
      ∙ ap (whole (joined_ignore_lists (each ss)) (joined_decoded_maps (each ss)).sources) (join-mappings ss)

-- ---- repeats
found-agrees : (bs cs : List DecodedMapping) → without_repeats is_same_mapping bs ≡ without_repeats is_same_mapping cs → (o : OriginalPosition) → original_through bs o ≡ original_through cs o
found-agrees bs cs e o = ap (λ q. option_map (named_by o) (option_and_then (λ e. e.original) q)) (clamped_pick_up_to_repeats is_same_mapping decides_entry mapping_line mapping_column bs cs o.src_line o.src_col e)

-- two inputs for a path: none on both sides, or equal up to repeats
abbrev Agree : Option DecodedMap → Option DecodedMap → Type 0
Agree None None = Unit {0}
Agree None (Some c) = ⊥
Agree (Some b) None = ⊥
Agree (Some b) (Some c) = Matches b c

agree-for : (bs cs : List (Text × DecodedMap)) → AreInputsEqualUpToRepeats bs cs → (path : Text) → Agree (input_for bs path) (input_for cs path)
agree-for [] [] h path = tt
agree-for [] (c ∷ cs) h path = absurd h
agree-for (b ∷ bs) [] h path = absurd h
agree-for (b ∷ bs) (c ∷ cs) h path =
    subst (λ (p : Text). Agree (cond (bytes_eq path b.0) (Some b.1) (input_for bs path)) (cond (bytes_eq path p) (Some c.1) (input_for cs path))) h.0.0
    (elim (bytes_eq path b.0) as (λ t. Agree (cond t (Some b.1) (input_for bs path)) (cond t (Some c.1) (input_for cs path))) [
      | true ↦ matches b.1 c.1 h.0.1
      | false ↦ agree-for bs cs h.1 path
    ])

original-agrees : (q r : Option DecodedMap) → Agree q r → (o : OriginalPosition) → original_through_input q o ≡ original_through_input r o
original-agrees None None h o = refl
original-agrees None (Some c) h o = absurd h
original-agrees (Some b) None h o = absurd h
original-agrees (Some b) (Some c) h o = found-agrees b.mappings c.mappings h.mappings o

sources-agree : (q r : Option DecodedMap) → Agree q r → (s : DecodedSource) → sources_by q s ≡ sources_by r s
sources-agree None None h s = refl
sources-agree None (Some c) h s = absurd h
sources-agree (Some b) None h s = absurd h
sources-agree (Some b) (Some c) h s = h.rest.sources

marks-agree : (q r : Option DecodedMap) → Agree q r → (m : DecodedSource × Bool) → marked_by q m ≡ marked_by r m
marks-agree None None h m = refl
marks-agree None (Some c) h m = absurd h
marks-agree (Some b) None h m = absurd h
marks-agree (Some b) (Some c) h m = ap (λ ss. marked_from 0 ss b.ignore_list) h.rest.sources ∙ ap (marked_from 0 c.sources) h.rest.ignore_list

mapping-agrees : (bs cs : List (Text × DecodedMap)) → AreInputsEqualUpToRepeats bs cs → (e : DecodedMapping) → remapped_mapping bs e ≡ remapped_mapping cs e
mapping-agrees bs cs h e =
    elim e.original as (λ (x : Option OriginalPosition). ◌≡◌ {A = DecodedMapping} (record { dst_line = e.dst_line; dst_col = e.dst_col; original = option_and_then (remapped_original bs) x }) (record { dst_line = e.dst_line; dst_col = e.dst_col; original = option_and_then (remapped_original cs) x })) [
      | None ↦ refl
      | Some o ↦ ap (λ x. record { dst_line = e.dst_line; dst_col = e.dst_col; original = x }) (original-agrees _ _ (agree-for bs cs h o.source.path) o)
    ]

pub remapped_up_to_repeats : (a a' : DecodedMap) (bs cs : List (Text × DecodedMap)) → EqualUpToRepeats a a' → AreInputsEqualUpToRepeats bs cs → EqualUpToRepeats (remapped_decoded_map a bs) (remapped_decoded_map a' cs)
remapped_up_to_repeats a a' bs cs e h =
    let m = matches a a' e in
    let marks : flat_map (marked_for bs) (marked_sources a) ≡ flat_map (marked_for cs) (marked_sources a') =
    flat_map-same (marked_for bs) (marked_for cs) (λ x. marks-agree _ _ (agree-for bs cs h x.0.path) x) (marked_sources a)
    ∙ ap (λ ss. flat_map (marked_for cs) (marked_from 0 ss a.ignore_list)) m.rest.sources ∙ ap (λ l. flat_map (marked_for cs) (marked_from 0 a'.sources l)) m.rest.ignore_list in
    up_to_repeats _ _ (record {
      rest = record {
        file = m.rest.file;
        source_root = refl;
        debug_id = m.rest.debug_id;
        ignore_list = ap ignored_ids marks;
        sources = flat_map-same (sources_for bs) (sources_for cs) (λ s. sources-agree _ _ (agree-for bs cs h s.path) s) a.sources ∙ ap (remapped_sources cs) m.rest.sources;
      };
      mappings = map_up_to_repeats (remapped_mapping bs) a.mappings a'.mappings m.mappings ∙ ap (without_repeats is_same_mapping) (map_same _ _ (mapping-agrees bs cs h) a'.mappings);
    })
