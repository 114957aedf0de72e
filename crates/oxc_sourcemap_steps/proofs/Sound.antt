-- A simplified map is sound if the map is sorted.
use Rattle.std.proofs.Common.{◌≡◌, ℕ, ◌+◌, ◌<◌, Bool, true, false, cond, ◌&&◌, List, [], ◌∷◌, map}
use Rattle.std.proofs.Common.{length, refl, sym, ap, ◌∙◌, subst, Option, Some, None, arith}
use Rattle.std.specs.List.{position_from, AllByRecursion}
use Rattle.std.specs.Option.{IfSome, option_and_then}
use Rattle.std.proofs.lemmas.List.{length-map}
use Rattle.oxc_sourcemap_tokens.specs.Token.{TokenRecord}
use Rattle.oxc_sourcemap_parts.specs.DecodedMap.{DecodedSource, sources_of, name_of, mapping_of}
use Rattle.oxc_sourcemap_parts.specs.DecodedMap.{decoded_map_of, mapping_line, mapping_column}
use Rattle.oxc_sourcemap_parts.specs.Record.{Text, MapRecord}
use Rattle.oxc_sourcemap_parts.specs.Sorted.{are_tokens_sorted, is_sorted_by, may_precede}
use Rattle.oxc_sourcemap_parts.specs.Sorted.{token_line, token_column}
use Rattle.oxc_sourcemap_parts.specs.Sound.{IsInRange, IsSound}
use Rattle.oxc_sourcemap_parts.specs.Texts.{index_of}
use Rattle.oxc_sourcemap_steps.specs.Blocks.{ignored_from, unless_empty, ignored_ids}
use Rattle.oxc_sourcemap_steps.specs.Simplified.{index_of_marked, simple_tokens, simple_names}
use Rattle.oxc_sourcemap_steps.specs.Simplified.{simple_sources_of, is_same_marked}
use Rattle.oxc_sourcemap_steps.specs.Simplified.{marked_source_of, token_among, renumbered}
use Rattle.oxc_sourcemap_steps.specs.Simplified.{simplified}
use Rattle.oxc_sourcemap_steps.proofs.Means.{decoded_map_simplified}
use Rattle.oxc_sourcemap_steps.proofs.Traces.{stays-sorted}

-- ---- order
-- mappings are sorted exactly if the tokens are that mean them
pub sorted-mappings : (ss : List DecodedSource) (ns : List Text) (ts : List TokenRecord) → is_sorted_by mapping_line mapping_column (map (mapping_of ss ns) ts) ≡ are_tokens_sorted ts
sorted-mappings ss ns [] = refl
sorted-mappings ss ns (t ∷ []) = refl
sorted-mappings ss ns (t ∷ u ∷ ts) = ap (λ b. may_precede token_line token_column t u && b) (sorted-mappings ss ns (u ∷ ts))

pub simplified-sorted : (r : MapRecord) → are_tokens_sorted r.tokens ≡ true → are_tokens_sorted (simplified r).tokens ≡ true
simplified-sorted r h =
    let m = simplified r in
    let s = decoded_map_of r in
    sym (sorted-mappings (sources_of m.sources m.source_contents) m.names m.tokens)
    ∙ ap (λ s. is_sorted_by mapping_line mapping_column s.mappings) (decoded_map_simplified r)
    ∙ stays-sorted s (sorted-mappings (sources_of r.sources r.source_contents) r.names r.tokens ∙ h)

-- ---- ids
position-below : {A : Type 0} (test : A → Bool) (k : ℕ) (xs : List A) → IfSome (position_from test k xs) (λ i. i < k + length xs)
position-below test k [] = tt
position-below test k (x ∷ xs) =
    elim (test x) as (λ b. IfSome (cond b (Some k) (position_from test (k + 1) xs)) (λ i. i < k + length (x ∷ xs))) [
      | true ↦ omega arith
      | false ↦ (let more = position-below test (k + 1) xs in elim (position_from test (k + 1) xs) as (λ o. IfSome o (λ i. i < (k + 1) + length xs) → IfSome o (λ i. i < k + length (x ∷ xs))) [
        | None ↦ (λ h. tt)
        | Some i ↦ (λ h. omega (arith, h))
      ] more)
    ]

below-zero : {A : Type 0} (o : Option ℕ) (xs : List A) → IfSome o (λ i. i < 0 + length xs) → IfSome o (λ i. i < length xs)
below-zero None xs h = tt
below-zero (Some i) xs h = omega (arith, h)

pub name-below : (name : Option Text) (names : List Text) → IfSome (option_and_then (λ name. index_of name names) name) (λ id. id < length names)
name-below None names = tt
name-below (Some name) names = below-zero (index_of name names) names (position-below _ 0 names)

pub source-below : (source : DecodedSource × Bool) (sources : List (DecodedSource × Bool)) → IfSome (index_of_marked source sources) (λ id. id < length sources)
source-below source sources = below-zero (index_of_marked source sources) sources (position-below (is_same_marked source) 0 sources)

pub token-in-range : (sources : List (DecodedSource × Bool)) (names : List Text) (name : Option Text) (t : TokenRecord) (source : Option (DecodedSource × Bool))
    → IsInRange (length names) (length sources) (token_among sources names name t source)
token-in-range sources names name t None = record { source_id = tt; name_id = tt }
token-in-range sources names name t (Some source) = record { source_id = source-below source sources; name_id = name-below name names }

all-in-range : (r : MapRecord) (sources : List (DecodedSource × Bool)) (names : List Text) (ts : List TokenRecord) → AllByRecursion (IsInRange (length names) (length sources)) (map (renumbered r sources names) ts)
all-in-range r sources names [] = tt
all-in-range r sources names (t ∷ ts) = (token-in-range sources names (name_of r.names t) t (marked_source_of r t), all-in-range r sources names ts)

ignored-below : (k n : ℕ) (ms : List (DecodedSource × Bool)) → k + length ms ≡ n → AllByRecursion (λ id. id < n) (ignored_from k ms)
ignored-below k n [] e = tt
ignored-below k n (m ∷ ms) e =
    let more = ignored-below (k + 1) n ms (omega (arith, e)) in
    elim m.1 as (λ b. AllByRecursion (λ id. id < n) (cond b (k ∷ ignored_from (k + 1) ms) (ignored_from (k + 1) ms))) [
      | true ↦ (omega (arith, e), more)
      | false ↦ more
    ]

unless-below : (n : ℕ) (ids : List ℕ) → AllByRecursion (λ id. id < n) ids → IfSome (unless_empty ids) (AllByRecursion (λ id. id < n))
unless-below n [] h = tt
unless-below n (id ∷ ids) h = h

pub simplified-sound : (r : MapRecord) → are_tokens_sorted r.tokens ≡ true → IsSound (simplified r)
simplified-sound r h =
    let sources = simple_sources_of r in
    let names = simple_names r in
    let count : length sources ≡ length (simplified r).sources = sym (length-map sources (λ (m : DecodedSource × Bool). m.0.path)) in
    record {
      sorted = simplified-sorted r h;
      in_range = record {
        tokens = subst (λ n. AllByRecursion (IsInRange (length names) n) (simplified r).tokens) count (all-in-range r sources names (simple_tokens r));
        ignore_list = subst (λ n. IfSome (ignored_ids sources) (AllByRecursion (λ id. id < n))) count (unless-below (length sources) (ignored_from 0 sources) (ignored-below 0 (length sources) sources (omega arith)));
      };
      chunks = tt;
    }
