-- What source roots change.
use Rattle.std.proofs.Common.{◌≡◌, refl, sym, ap, subst, ◌∙◌, ℕ, ◌<◌, List, [], ◌∷◌, map, length}
use Rattle.std.proofs.Common.{Option, Some, None}
use Rattle.std.proofs.lemmas.List.{length-map}
use Rattle.std.proofs.lemmas.Option.{slice_get-map}
use Rattle.std.specs.List.{slice_get, AllByRecursion}
use Rattle.std.specs.Option.{IfSome, option_map, option_and_then}
use Rattle.oxc_sourcemap_tokens.specs.Token.{TokenRecord}
use Rattle.oxc_sourcemap_parts.specs.DecodedMap.{DecodedSource, OriginalPosition, DecodedMapping}
use Rattle.oxc_sourcemap_parts.specs.DecodedMap.{DecodedMap, sources_of, original_at, mapping_of}
use Rattle.oxc_sourcemap_parts.specs.DecodedMap.{decoded_map_of, mapping_line, mapping_column}
use Rattle.oxc_sourcemap_parts.specs.Record.{Text, MapRecord}
use Rattle.oxc_sourcemap_parts.specs.Roots.{rooted_sources, rooted}
use Rattle.oxc_sourcemap_parts.specs.Sound.{IsInRange, IsSound}
use Rattle.oxc_sourcemap_lookup.specs.Lookup.{pick, clamped_pick}
use Rattle.oxc_sourcemap_lookup.specs.Trace.{trace, clamped_trace}
use Rattle.oxc_sourcemap_lookup.proofs.Picks.{pick-map, clamped_pick-map}
use Rattle.oxc_sourcemap_plan.specs.Repeats.{without_repeats, is_same_mapping}
use Rattle.oxc_sourcemap_plan.specs.Repeats.{decoded_map_without_repeats, EqualUpToRepeats}
use Rattle.oxc_sourcemap_plan.specs.JoinLaws.{StandsFor}
use Rattle.oxc_sourcemap_plan.specs.RootedDecodedMaps.{with_root, rooted_original, rooted_mapping}
use Rattle.oxc_sourcemap_plan.specs.RootedDecodedMaps.{rooted_decoded_map, pathless_source}
use Rattle.oxc_sourcemap_plan.specs.RootedDecodedMaps.{pathless_original, pathless_mapping}
use Rattle.oxc_sourcemap_plan.specs.RootedDecodedMaps.{without_paths}
use Rattle.oxc_sourcemap_plan.proofs.Joins.{map_same, map_twice}
use Rattle.oxc_sourcemap_plan.proofs.RemappedMaps.{map-self}
use Rattle.oxc_sourcemap_plan.proofs.UpToRepeats.{map_up_to_repeats, matches, up_to_repeats}

-- ---- maps
pub count-rooted : (root : Option Text) (sources : List Text) → length (rooted_sources root sources) ≡ length sources
count-rooted None sources = refl
count-rooted (Some root) sources = length-map sources _

sources-some : (root : Text) (ps : List Text) (cs : List (Option Text)) → sources_of (rooted_sources (Some root) ps) cs ≡ map (with_root (Some root)) (sources_of ps cs)
sources-some root [] cs = refl
sources-some root (p ∷ ps) [] = ap (λ ss. with_root (Some root) (record { path = p; content = None }) ∷ ss) (sources-some root ps [])
sources-some root (p ∷ ps) (c ∷ cs) = ap (λ ss. with_root (Some root) (record { path = p; content = c }) ∷ ss) (sources-some root ps cs)

sources-rooted : (root : Option Text) (ps : List Text) (cs : List (Option Text)) → sources_of (rooted_sources root ps) cs ≡ map (with_root root) (sources_of ps cs)
sources-rooted None ps cs = sym (map-self (with_root None) (λ s. refl) (sources_of ps cs))
sources-rooted (Some root) ps cs = sources-some root ps cs

abbrev with-source : (DecodedSource → DecodedSource) → OriginalPosition → OriginalPosition
with-source f o = record o { source = f o.source }

original-by : (f : DecodedSource → DecodedSource) (ss : List DecodedSource) (names : List Text) (t : TokenRecord) (id : Option ℕ)
    → option_map (original_at names t) (option_and_then (slice_get (map f ss)) id) ≡ option_map (with-source f) (option_map (original_at names t) (option_and_then (slice_get ss) id))
original-by f ss names t None = refl
original-by f ss names t (Some i) =
    ap (option_map (original_at names t)) (slice_get-map f ss i)
    ∙ elim (slice_get ss i) as (λ (o : Option DecodedSource). option_map (original_at names t) (option_map f o) ≡ option_map (with-source f) (option_map (original_at names t) o)) [ None ↦ refl | Some s ↦ refl ]

mapping-rooted : (root : Option Text) (ss : List DecodedSource) (names : List Text) (t : TokenRecord) → mapping_of (map (with_root root) ss) names t ≡ rooted_mapping root (mapping_of ss names t)
mapping-rooted root ss names t = ap (λ o. record { dst_line = t.dst_line; dst_col = t.dst_col; original = o }) (original-by (with_root root) ss names t t.source_id)

pub decoded_map_rooted : (r : MapRecord) → decoded_map_of (rooted r) ≡ rooted_decoded_map (decoded_map_of r)
decoded_map_rooted r =
    let ss = sources_of r.sources r.source_contents in
    let whole : List DecodedSource → List DecodedMapping → DecodedMap = λ xs es. record { file = r.file; source_root = None; debug_id = r.debug_id; ignore_list = r.ignore_list; sources = xs; mappings = es } in
    ap (λ xs. whole xs (map (mapping_of xs r.names) r.tokens)) (sources-rooted r.source_root r.sources r.source_contents)
    ∙ ap (whole (map (with_root r.source_root) ss))
    (map_same _ _ (mapping-rooted r.source_root ss r.names) r.tokens ∙ sym (map_twice (mapping_of ss r.names) (rooted_mapping r.source_root) (λ t. rooted_mapping r.source_root (mapping_of ss r.names t)) (λ t. refl) r.tokens))

pub rootless : (r : MapRecord) → r.source_root ≡ None → rooted r ≡ r
rootless r e = ap (λ root. record r { source_root = None; sources = rooted_sources root r.sources }) e ∙ ap (λ root. record r { source_root = root }) (sym e)

pub rooting_keeps : (r : MapRecord) → (record (rooted r) { source_root = r.source_root; sources = r.sources } ≡ r) × (length (rooted r).sources ≡ length r.sources)
rooting_keeps r = (refl, count-rooted r.source_root r.sources)

pub sound_rooted : (r : MapRecord) → IsSound r → IsSound (rooted r)
sound_rooted r h =
    let e = sym (count-rooted r.source_root r.sources) in
    record {
      sorted = h.sorted;
      in_range = record {
        tokens = subst (λ n. AllByRecursion (IsInRange (length r.names) n) r.tokens) e h.in_range.tokens;
        ignore_list = subst (λ n. IfSome r.ignore_list (AllByRecursion (λ id. id < n))) e h.in_range.ignore_list;
      };
      chunks = h.chunks;
    }

-- ---- decoded maps
original-stays : (o : OriginalPosition) → rooted_original None o ≡ o
original-stays o = refl

mapping-stays : (e : DecodedMapping) → rooted_mapping None e ≡ e
mapping-stays e = elim e.original as (λ (x : Option OriginalPosition). ◌≡◌ {A = DecodedMapping} (record { dst_line = e.dst_line; dst_col = e.dst_col; original = option_map (rooted_original None) x }) (record { dst_line = e.dst_line; dst_col = e.dst_col; original = x })) [
  | None ↦ refl
  | Some o ↦ ap (λ p. record { dst_line = e.dst_line; dst_col = e.dst_col; original = Some p }) (original-stays o)
]

pub rootless_decoded_map : (s : DecodedMap) → s.source_root ≡ None → rooted_decoded_map s ≡ s
rootless_decoded_map s e =
    ap (λ root. record s { source_root = None; sources = map (with_root root) s.sources; mappings = map (rooted_mapping root) s.mappings }) e
    ∙ ap (λ ss. record s { source_root = None; sources = ss; mappings = map (rooted_mapping None) s.mappings }) (map-self (with_root None) (λ x. refl) s.sources)
    ∙ ap (λ es. record s { source_root = None; mappings = es }) (map-self (rooted_mapping None) mapping-stays s.mappings)
    ∙ ap (λ root. record s { source_root = root }) (sym e)

pub rooted_again : (s : DecodedMap) → rooted_decoded_map (rooted_decoded_map s) ≡ rooted_decoded_map s
rooted_again s = rootless_decoded_map (rooted_decoded_map s) refl

pathless-source : (root : Option Text) (s : DecodedSource) → pathless_source (with_root root s) ≡ pathless_source s
pathless-source None s = refl
pathless-source (Some root) s = refl

pathless-mapping : (root : Option Text) (e : DecodedMapping) → pathless_mapping (rooted_mapping root e) ≡ pathless_mapping e
pathless-mapping root e = elim e.original as (λ (x : Option OriginalPosition). ◌≡◌ {A = DecodedMapping}
    (record { dst_line = e.dst_line; dst_col = e.dst_col; original = option_map pathless_original (option_map (rooted_original root) x) }) (record { dst_line = e.dst_line; dst_col = e.dst_col; original = option_map pathless_original x })) [
      | None ↦ refl
      | Some o ↦ ap (λ s. record { dst_line = e.dst_line; dst_col = e.dst_col; original = Some (record o { source = s }) }) (pathless-source root o.source)
    ]

pub rooted_decoded_map_keeps : (s : DecodedMap) → without_paths (rooted_decoded_map s) ≡ without_paths s
rooted_decoded_map_keeps s =
    ap (λ ss. record s { source_root = None; sources = ss; mappings = map pathless_mapping (map (rooted_mapping s.source_root) s.mappings) }) (map_twice (with_root s.source_root) pathless_source pathless_source (pathless-source s.source_root) s.sources)
    ∙ ap (λ es. record s { source_root = None; sources = map pathless_source s.sources; mappings = es }) (map_twice (rooted_mapping s.source_root) pathless_mapping pathless_mapping (pathless-mapping s.source_root) s.mappings)

found-rooted : (root : Option Text) (q : Option DecodedMapping) → option_map (λ e. e.original) (option_map (rooted_mapping root) q) ≡ option_map (option_map (rooted_original root)) (option_map (λ e. e.original) q)
found-rooted root None = refl
found-rooted root (Some e) = refl

pub traces_rooted : (s : DecodedMap) (line col : ℕ)
    → (trace (rooted_decoded_map s) line col ≡ option_map (option_map (rooted_original s.source_root)) (trace s line col))
    × (clamped_trace (rooted_decoded_map s) line col ≡ option_map (option_map (rooted_original s.source_root)) (clamped_trace s line col))
traces_rooted s line col = (
  ap (option_map (λ e. e.original)) (pick-map (rooted_mapping s.source_root) mapping_line mapping_column s.mappings line col) ∙ found-rooted s.source_root (pick mapping_line mapping_column s.mappings line col),
  ap (option_map (λ e. e.original)) (clamped_pick-map (rooted_mapping s.source_root) mapping_line mapping_column s.mappings line col) ∙ found-rooted s.source_root (clamped_pick mapping_line mapping_column s.mappings line col),
)

pub rooted_up_to_repeats : (s t : DecodedMap) → EqualUpToRepeats s t → EqualUpToRepeats (rooted_decoded_map s) (rooted_decoded_map t)
rooted_up_to_repeats s t e =
    let m = matches s t e in
    up_to_repeats _ _ (record {
      rest = record {
        file = m.rest.file;
        source_root = refl;
        debug_id = m.rest.debug_id;
        ignore_list = m.rest.ignore_list;
        sources = ap (λ root. map (with_root root) s.sources) m.rest.source_root ∙ ap (map (with_root t.source_root)) m.rest.sources;
      };
      mappings = ap (λ root. without_repeats is_same_mapping (map (rooted_mapping root) s.mappings)) m.rest.source_root ∙ map_up_to_repeats (rooted_mapping t.source_root) s.mappings t.mappings m.mappings;
    })

pub rooting_stands : (r : MapRecord) (s : DecodedMap) → StandsFor r s → StandsFor (rooted r) (rooted_decoded_map s)
rooting_stands r s h = record {
  sound = sound_rooted r h.sound;
  up_to_repeats = ap decoded_map_without_repeats (decoded_map_rooted r) ∙ rooted_up_to_repeats (decoded_map_of r) s h.up_to_repeats;
}
