-- Simplified maps as wholes: simplifying again changes nothing, and what is left of names and sources is needed.
use Rattle.std.specs.Prelude.{◌≡◌, ◌⊎◌, Bool, true, List, [], map, not, Some, Ok}
use Rattle.std.specs.List.{filter_map, flat_map, AllByRecursion, Contains, IsDistinct}
use Rattle.std.specs.Str.{bytes_eq}
use Rattle.oxc_sourcemap_tokens.specs.Token.{TokenRecord}
use Rattle.oxc_sourcemap_parts.specs.DecodedMap.{DecodedSource, name_of}
use Rattle.oxc_sourcemap_parts.specs.DecodedMap.{decoded_map_of}
use Rattle.oxc_sourcemap_parts.specs.Record.{Text, MapRecord}
use Rattle.oxc_sourcemap_parts.specs.Sorted.{are_tokens_sorted}
use Rattle.oxc_sourcemap_parts.specs.Texts.{with_texts}
use Rattle.oxc_sourcemap_lookup.specs.Trace.{original_in}
use Rattle.oxc_sourcemap_steps.specs.Blocks.{marked_sources}
use Rattle.oxc_sourcemap_steps.specs.Simplified.{is_same_marked, listings, needed_sources}
use Rattle.oxc_sourcemap_steps.specs.Simplified.{simplified}
use Rattle.oxc_sourcemap_steps.specs.Simplified.{marked_source_of, simplification}

-- ---- again
-- Simplifying a sorted map a second time changes nothing, in any field.
abbrev pub SimplifyingAgain : Type 0
SimplifyingAgain = (r : MapRecord) → are_tokens_sorted r.tokens ≡ true → simplified (simplified r) ≡ simplified r

-- A map that was simplified is simplified without an error, and stays as it is.
abbrev pub SimplificationAgain : Type 0
SimplificationAgain = (r m : MapRecord) → simplification r ≡ Ok m → simplification m ≡ Ok m

-- ---- names
-- this is the name of a token
abbrev pub IsNameOfToken : MapRecord → Text → Type 0
IsNameOfToken m name = (t : TokenRecord) × Contains m.tokens t × (name_of m.names t ≡ Some name)

-- the names that tokens have, in the order of the tokens
abbrev pub names_of_tokens : MapRecord → List Text
names_of_tokens m = filter_map (name_of m.names) m.tokens

-- Names differ, each is that of a token, and they are in the order in which tokens have them first.
pub record AreNamesNeeded (m : MapRecord) : Type 0 where
  pub distinct : IsDistinct bytes_eq m.names
  pub used : AllByRecursion (IsNameOfToken m) m.names
  pub in_order : m.names ≡ with_texts [] (names_of_tokens m)

-- The names of a simplified map are needed, whether or not the map is sorted.
abbrev pub SimplifiedNamesNeeded : Type 0
SimplifiedNamesNeeded = (r : MapRecord) → AreNamesNeeded (simplified r)

-- ---- sources
-- the sources of a map, each with whether it is ignored
abbrev pub marked_in : MapRecord → List (DecodedSource × Bool)
marked_in m = marked_sources (decoded_map_of m)

-- the source of the same path and content with the other mark
abbrev pub twin : DecodedSource × Bool → DecodedSource × Bool
twin source = (source.0, not source.1)

-- a token has this source
abbrev pub IsSourceOfToken : MapRecord → DecodedSource × Bool → Type 0
IsSourceOfToken m source = (t : TokenRecord) × Contains m.tokens t × (marked_source_of m t ≡ Some source)

-- the sources that tokens point to, each once, in the order in which tokens point to them first
abbrev pub first_needed : MapRecord → List DecodedSource
first_needed m = needed_sources (map (original_in m) m.tokens)

-- Sources with their marks differ, each is that of a token, or its twin is, and they are in the order in which tokens need them
-- first: of twins the one that is not ignored, and then the other.
pub record AreSourcesNeeded (m : MapRecord) : Type 0 where
  pub distinct : IsDistinct is_same_marked (marked_in m)
  pub used : AllByRecursion (λ source. IsSourceOfToken m source ⊎ IsSourceOfToken m (twin source)) (marked_in m)
  pub in_order : marked_in m ≡ flat_map (listings (marked_in m)) (first_needed m)

-- The sources of a simplified map are needed, whether or not the map is sorted.
abbrev pub SimplifiedSourcesNeeded : Type 0
SimplifiedSourcesNeeded = (r : MapRecord) → AreSourcesNeeded (simplified r)

-- So are those of each map that simplifying makes.
abbrev pub SimplificationNeeded : Type 0
SimplificationNeeded = (r m : MapRecord) → simplification r ≡ Ok m → AreNamesNeeded m × AreSourcesNeeded m
