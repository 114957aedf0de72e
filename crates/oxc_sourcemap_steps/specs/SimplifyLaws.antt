-- What simplifying leaves as it is, and that nothing smaller would do.
use Rattle.std.specs.Prelude.{◌≡◌, ℕ, ◌≤◌, true, length}
use Rattle.oxc_sourcemap_parts.specs.DecodedMap.{DecodedMap, mapping_line, mapping_column}
use Rattle.oxc_sourcemap_parts.specs.DecodedMap.{decoded_map_of}
use Rattle.oxc_sourcemap_parts.specs.Record.{MapRecord}
use Rattle.oxc_sourcemap_parts.specs.Sorted.{is_sorted_by, are_tokens_sorted}
use Rattle.oxc_sourcemap_parts.specs.Sound.{IsSound}
use Rattle.oxc_sourcemap_lookup.specs.Trace.{trace, clamped_trace}
use Rattle.oxc_sourcemap_steps.specs.Simplified.{simplified_decoded_map, simplified}

-- the mappings of a decoded map are sorted
abbrev pub IsSortedMap : DecodedMap → Type 0
IsSortedMap s = is_sorted_by mapping_line mapping_column s.mappings ≡ true

-- Every trace of a sorted decoded map stays, exact and clamped.
abbrev pub TracesStay : Type 0
TracesStay = (s : DecodedMap) → IsSortedMap s → (line col : ℕ)
    → (trace (simplified_decoded_map s) line col ≡ trace s line col)
    × (clamped_trace (simplified_decoded_map s) line col ≡ clamped_trace s line col)

-- What was sorted is sorted.
abbrev pub StaysSorted : Type 0
StaysSorted = (s : DecodedMap) → IsSortedMap s → IsSortedMap (simplified_decoded_map s)

-- No sorted decoded map with the same exact traces has fewer mappings.
abbrev pub IsLeast : Type 0
IsLeast = (s t : DecodedMap) → IsSortedMap s → IsSortedMap t → ((line col : ℕ) → trace s line col ≡ trace t line col)
    → length (simplified_decoded_map s).mappings ≤ length t.mappings

-- Mappings that were simplified stay as they are.
abbrev pub MappingsStay : Type 0
MappingsStay = (s : DecodedMap) → IsSortedMap s
    → (simplified_decoded_map (simplified_decoded_map s)).mappings ≡ (simplified_decoded_map s).mappings

-- The decoded map of a simplified map is the simplified decoded map, whatever the map is.
abbrev pub DecodedMapOfSimplified : Type 0
DecodedMapOfSimplified = (r : MapRecord) → decoded_map_of (simplified r) ≡ simplified_decoded_map (decoded_map_of r)

-- A simplified map is sound if the map is sorted, whatever its ids are.
abbrev pub SimplifiedIsSound : Type 0
SimplifiedIsSound = (r : MapRecord) → are_tokens_sorted r.tokens ≡ true → IsSound (simplified r)
