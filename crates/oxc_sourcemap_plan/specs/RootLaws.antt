-- What source roots change.
use Rattle.std.specs.Prelude.{◌≡◌, ℕ, length, None}
use Rattle.std.specs.Option.{option_map}
use Rattle.oxc_sourcemap_parts.specs.Record.{MapRecord}
use Rattle.oxc_sourcemap_parts.specs.Sound.{IsSound}
use Rattle.oxc_sourcemap_parts.specs.DecodedMap.{DecodedMap, decoded_map_of}
use Rattle.oxc_sourcemap_parts.specs.Roots.{rooted}
use Rattle.oxc_sourcemap_lookup.specs.Trace.{trace, clamped_trace}
use Rattle.oxc_sourcemap_plan.specs.Repeats.{EqualUpToRepeats}
use Rattle.oxc_sourcemap_plan.specs.JoinLaws.{StandsFor}
use Rattle.oxc_sourcemap_plan.specs.RootedDecodedMaps.{rooted_original, rooted_decoded_map}
use Rattle.oxc_sourcemap_plan.specs.RootedDecodedMaps.{without_paths}

-- The decoded map of a map whose source root is applied is the decoded map with its source root applied.
abbrev pub DecodedMapOfRooting : Type 0
DecodedMapOfRooting = (r : MapRecord) → decoded_map_of (rooted r) ≡ rooted_decoded_map (decoded_map_of r)

-- Applied again, a source root changes nothing; nor does one that is none.
abbrev pub RootingAgain : Type 0
RootingAgain = (r : MapRecord) → (rooted (rooted r) ≡ rooted r) × (r.source_root ≡ None → rooted r ≡ r)

abbrev pub RootedDecodedMapsAgain : Type 0
RootedDecodedMapsAgain = (s : DecodedMap)
    → (rooted_decoded_map (rooted_decoded_map s) ≡ rooted_decoded_map s) × (s.source_root ≡ None → rooted_decoded_map s ≡ s)

-- Nothing changes but the source root and the texts of sources, of which there are as many.
abbrev pub RootingKeeps : Type 0
RootingKeeps = (r : MapRecord)
    → (record (rooted r) { source_root = r.source_root; sources = r.sources } ≡ r) × (length (rooted r).sources ≡ length r.sources)

abbrev pub RootedDecodedMapsKeep : Type 0
RootedDecodedMapsKeep = (s : DecodedMap) → without_paths (rooted_decoded_map s) ≡ without_paths s

-- The traces, exact and clamped, are those of the decoded map, with its source root before the paths.
abbrev pub TracesOfRooting : Type 0
TracesOfRooting = (s : DecodedMap) (line col : ℕ)
    → (trace (rooted_decoded_map s) line col ≡ option_map (option_map (rooted_original s.source_root)) (trace s line col))
    × (clamped_trace (rooted_decoded_map s) line col ≡ option_map (option_map (rooted_original s.source_root)) (clamped_trace s line col))

-- Decoded maps that are equal up to repeats stay so.
abbrev pub RootingKeepsEqualUpToRepeats : Type 0
RootingKeepsEqualUpToRepeats = (s t : DecodedMap) → EqualUpToRepeats s t → EqualUpToRepeats (rooted_decoded_map s) (rooted_decoded_map t)

-- A sound map stays sound.
abbrev pub RootingIsSound : Type 0
RootingIsSound = (r : MapRecord) → IsSound r → IsSound (rooted r)

-- If a map stands for a decoded map, it does so once the source roots of both are applied.
abbrev pub RootingStandsFor : Type 0
RootingStandsFor = (r : MapRecord) (s : DecodedMap) → StandsFor r s → StandsFor (rooted r) (rooted_decoded_map s)
