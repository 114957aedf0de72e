-- What simplified maps are, by what the maps stand for.
use Rattle.std.proofs.Common.{◌≡◌, refl, sym, ap, ◌∙◌, ℕ, ◌<◌, ◌≤◌, Bool, true, List, [], ◌∷◌, map}
use Rattle.std.proofs.Common.{length, ◌&&◌, nat_le, Option, Some, None, arith, subst}
use Rattle.std.proofs.lemmas.Bool.{and_parts}
use Rattle.std.proofs.lemmas.Bool.Decides.{nat_tests}
use Rattle.std.proofs.lemmas.List.{length-map}
use Rattle.std.proofs.lemmas.List.Elements.{recursion_from_All, All-from_recursion}
use Rattle.std.specs.List.{slice_get, filter_map, flat_map, list_all, AllByRecursion}
use Rattle.std.specs.Option.{IfSome, option_map, option_and_then}
use Rattle.oxc_sourcemap_tokens.specs.Token.{TokenRecord, IsInBounds, AreInBounds}
use Rattle.oxc_sourcemap_parts.specs.DecodedMap.{DecodedSource, DecodedMapping, DecodedMap}
use Rattle.oxc_sourcemap_parts.specs.DecodedMap.{sources_of, name_of, original_at, decoded_map_of}
use Rattle.oxc_sourcemap_parts.specs.Record.{Text, MapRecord}
use Rattle.oxc_sourcemap_parts.specs.Sorted.{token_line, token_column}
use Rattle.oxc_sourcemap_lookup.specs.Trace.{original_in}
use Rattle.oxc_sourcemap_steps.specs.Blocks.{marked_from, marked_sources, ignored_ids}
use Rattle.oxc_sourcemap_steps.proofs.SourceBlocks.{count-all-marked}
use Rattle.oxc_sourcemap_steps.specs.Simple.{is_after_repeat}
use Rattle.oxc_sourcemap_steps.specs.Simplified.{found_mappings, simple_mappings, listings}
use Rattle.oxc_sourcemap_steps.specs.Simplified.{needed_sources, simple_sources, pointed_to}
use Rattle.oxc_sourcemap_steps.specs.Simplified.{simplified_decoded_map, found_tokens}
use Rattle.oxc_sourcemap_steps.specs.Simplified.{found_originals, are_alike_in}
use Rattle.oxc_sourcemap_steps.specs.Simplified.{token_at_next_column, simple_tokens, name_in}
use Rattle.oxc_sourcemap_steps.specs.Simplified.{simple_names, simple_sources_of, marked_source_of}
use Rattle.oxc_sourcemap_steps.specs.Simplified.{token_among, renumbered, simplified, fits}
use Rattle.oxc_sourcemap_steps.proofs.Fewer.{sources-most}
use Rattle.oxc_sourcemap_steps.proofs.Means.{decoded_map_simplified, kept-has, found-has}
use Rattle.oxc_sourcemap_steps.proofs.Order.{found-length, keep-length}
use Rattle.oxc_sourcemap_steps.proofs.Sound.{simplified-sound, source-below, name-below}
use Rattle.oxc_sourcemap_steps.proofs.Twice.{mappings-twice, sources-twice}
use Rattle.oxc_sourcemap_plan.specs.Repeats.{is_same_mapping, decoded_map_without_repeats}
use Rattle.oxc_sourcemap_plan.specs.Repeats.{EqualUpToRepeats}
use Rattle.oxc_sourcemap_plan.specs.JoinLaws.{StandsFor}
use Rattle.oxc_sourcemap_plan.proofs.ComposedNames.{IsOf, name-of_some, taken-are_of, missing-most}
use Rattle.oxc_sourcemap_plan.proofs.ComposedNames.{grown, tested, all-tested}
use Rattle.oxc_sourcemap_plan.proofs.DroppingRepeats.{up_to_repeats_by}
use Rattle.oxc_sourcemap_plan.proofs.Same.{decides_entry}
use Rattle.oxc_sourcemap_plan.proofs.UpToRepeats.{matches, decoded_map_by}

-- ---- repeats
pub simplified_up_to_repeats : (s t : DecodedMap) → EqualUpToRepeats s t → simplified_decoded_map s ≡ simplified_decoded_map t
simplified_up_to_repeats s t e =
    let m = matches s t e in
    let needed : List DecodedMapping → List DecodedSource = λ es. needed_sources (map (λ (e : DecodedMapping). e.original) (found_mappings es)) in
    let same : simple_sources (marked_sources s) (pointed_to s) ≡ simple_sources (marked_sources t) (pointed_to t) =
    ap (λ ss. simple_sources (marked_from 0 ss s.ignore_list) (pointed_to s)) m.rest.sources
    ∙ ap (λ l. simple_sources (marked_from 0 t.sources l) (pointed_to s)) m.rest.ignore_list
    ∙ ap (λ ss. flat_map (listings (marked_sources t)) ss) (up_to_repeats_by is_same_mapping decides_entry needed sources-twice s.mappings t.mappings m.mappings) in
    decoded_map_by (simplified_decoded_map s) t.file t.source_root t.debug_id (simplified_decoded_map t).ignore_list (simplified_decoded_map t).sources (simplified_decoded_map t).mappings
    m.rest.file m.rest.source_root m.rest.debug_id (ap ignored_ids same) (ap (map (λ (m : DecodedSource × Bool). m.0)) same)
    (up_to_repeats_by is_same_mapping decides_entry simple_mappings mappings-twice s.mappings t.mappings m.mappings)

pub simplifying_stands : (r : MapRecord) (s : DecodedMap) → StandsFor r s → StandsFor (simplified r) (simplified_decoded_map s)
simplifying_stands r s h = record {
  sound = simplified-sound r h.sound.sorted;
  up_to_repeats = ap decoded_map_without_repeats (decoded_map_simplified r ∙ simplified_up_to_repeats (decoded_map_of r) s h.up_to_repeats);
}

-- ---- counts
pub simplifying_counts : (r : MapRecord) → (length (simplified r).tokens ≤ length r.tokens) × (length (simplified r).sources ≤ length r.sources) × (length (simplified r).source_contents ≡ length (simplified r).sources)
simplifying_counts r =
    let sources = simple_sources_of r in
    let a = length-map (simple_tokens r) (renumbered r sources (simple_names r)) in
    let b = keep-length token_line token_column (are_alike_in r) token_at_next_column (is_after_repeat token_line token_column (are_alike_in r)) [] (found_tokens r) in
    let c = found-length token_line token_column [] r.tokens in
    let d = sources-most (marked_sources (decoded_map_of r)) (found_originals r) in
    let e = count-all-marked r in
    let f = length-map sources (λ (m : DecodedSource × Bool). m.0.path) in
    (omega (arith, a, b, c), omega (arith, d, e, f), length-map sources (λ (m : DecodedSource × Bool). m.0.content) ∙ sym (length-map sources (λ (m : DecodedSource × Bool). m.0.path)))

-- ---- names
name-by : (names : List Text) (t : TokenRecord) (source : Option DecodedSource) (x : Text) → name_in (option_map (original_at names t) source) ≡ Some x → IsOf names x
name-by names t None x e = absurd (cc (e))
name-by names t (Some source) x e = name-of_some names t.name_id x e

all-of : (r : MapRecord) (ts : List TokenRecord) → AllByRecursion (IsOf r.names) (filter_map name_in (map (original_in r) ts))
all-of r [] = tt
all-of r (t ∷ ts) =
    taken-are_of r.names (name_in (original_in r t)) _
    (λ x e. name-by r.names t (option_and_then (slice_get (sources_of r.sources r.source_contents)) t.source_id) x e) (all-of r ts)

pub simplifying_names : (r : MapRecord) → ((test : Text → Bool) → list_all test r.names ≡ true → list_all test (simplified r).names ≡ true) × (length (simplified r).names ≤ length r.names)
simplifying_names r =
    let xs = filter_map name_in (found_originals r) in
    let all = all-of r (found_tokens r) in
    let g = grown [] r.names xs all in
    let m = missing-most [] r.names in
    ((λ test h. tested test [] xs refl (all-tested test r.names xs h all)), omega (arith, g, m))

-- ---- bounds
-- what simplifying keeps of a token in bounds
record Kept (t : TokenRecord) : Type 0 where
  dst_line : t.dst_line < 4294967296
  src_line : t.src_line < 4294967296
  src_col : t.src_col < 4294967296

all-kept : (ts : List TokenRecord) → AllByRecursion IsInBounds ts → AllByRecursion Kept ts
all-kept [] h = tt
all-kept (t ∷ ts) h = (record { dst_line = h.0.dst_line; src_line = h.0.src_line; src_col = h.0.src_col }, all-kept ts h.1)

id-within : (o : Option ℕ) (n : ℕ) → n ≤ 4294967295 → IfSome o (λ id. id < n) → IfSome o (λ id. id < 4294967295)
id-within None n l h = tt
id-within (Some id) n l h = omega (arith, l, h)

column-within : (n : ℕ) → nat_le n 4294967295 ≡ true → n < 4294967296
column-within n e = grind (arith, nat_tests, e)

at-most : (n : ℕ) → nat_le n 4294967295 ≡ true → n ≤ 4294967295
at-most n e = grind (arith, nat_tests, e)

module _ (sources : List (DecodedSource × Bool)) (names : List Text) (few : length sources ≤ 4294967295) (some : length names ≤ 4294967295) where
  bounds-among : (name : Option Text) (t : TokenRecord) (source : Option (DecodedSource × Bool)) → Kept t → nat_le (token_among sources names name t source).dst_col 4294967295 ≡ true
      → IsInBounds (token_among sources names name t source)
  bounds-among name t None k e = record { dst_line = k.dst_line; dst_col = column-within t.dst_col e; src_line = omega arith; src_col = omega arith; source_id = tt; name_id = tt }
  bounds-among name t (Some source) k e = record {
    dst_line = k.dst_line;
    dst_col = column-within t.dst_col e;
    src_line = k.src_line;
    src_col = k.src_col;
    source_id = id-within _ (length sources) few (source-below source sources);
    name_id = id-within _ (length names) some (name-below name names);
  }

  all-bounds : (r : MapRecord) (ts : List TokenRecord) → AllByRecursion Kept ts → list_all (λ t. nat_le t.dst_col 4294967295) (map (renumbered r sources names) ts) ≡ true
      → AllByRecursion IsInBounds (map (renumbered r sources names) ts)
  all-bounds r [] k e = tt
  all-bounds r (t ∷ ts) k e =
      let p = and_parts (nat_le (renumbered r sources names t).dst_col 4294967295) (list_all (λ t. nat_le t.dst_col 4294967295) (map (renumbered r sources names) ts)) e in
      (bounds-among (name_of r.names t) t (marked_source_of r t) k.0 p.0, all-bounds r ts k.1 p.1)

pub simplifying_in_bounds : (r : MapRecord) → AreInBounds r.tokens → fits (simplified r) ≡ true → AreInBounds (simplified r).tokens
simplifying_in_bounds r h e =
    let m = simplified r in
    let sources = simple_sources_of r in
    let p = and_parts (nat_le (length m.names) 4294967295) (nat_le (length m.sources) 4294967295 && list_all (λ t. nat_le t.dst_col 4294967295) m.tokens) e in
    let q = and_parts (nat_le (length m.sources) 4294967295) (list_all (λ t. nat_le t.dst_col 4294967295) m.tokens) p.1 in
    let count = length-map sources (λ (m : DecodedSource × Bool). m.0.path) in
    let few : length sources ≤ 4294967295 = subst (λ n. n ≤ 4294967295) count (at-most (length m.sources) q.0) in
    let found = found-has token_line token_column Kept [] r.tokens (all-kept r.tokens (recursion_from_All IsInBounds r.tokens h)) in
    let kept = kept-has token_line token_column (are_alike_in r) token_at_next_column (is_after_repeat token_line token_column (are_alike_in r)) Kept (λ t k. record { dst_line = k.dst_line; src_line = k.src_line; src_col = k.src_col }) [] (found_tokens r) found in
    All-from_recursion IsInBounds m.tokens (all-bounds sources (simple_names r) few (at-most (length m.names) p.0) r (simple_tokens r) kept q.1)
