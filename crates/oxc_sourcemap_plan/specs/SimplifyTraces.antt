-- Steps over simplified decoded maps have the traces that they have over the decoded maps themselves.
use Rattle.std.specs.Prelude.{◌≡◌, ℕ, ◌+◌, false, List, ◌∷◌, ◌++◌, map}
use Rattle.std.specs.List.{list_any, AllByRecursion}
use Rattle.oxc_sourcemap_parts.specs.DecodedMap.{DecodedMap}
use Rattle.oxc_sourcemap_parts.specs.Record.{Text}
use Rattle.oxc_sourcemap_join.specs.Joined.{shifted_column}
use Rattle.oxc_sourcemap_lookup.specs.Trace.{trace, clamped_trace}
use Rattle.oxc_sourcemap_steps.specs.Simplified.{simplified_decoded_map}
use Rattle.oxc_sourcemap_steps.specs.SimplifyLaws.{IsSortedMap}
use Rattle.oxc_sourcemap_plan.specs.ComposedDecodedMaps.{composed_decoded_maps}
use Rattle.oxc_sourcemap_plan.specs.JoinedDecodedMaps.{joined_decoded_maps}
use Rattle.oxc_sourcemap_plan.specs.RemappedDecodedMaps.{remapped_decoded_map}
use Rattle.oxc_sourcemap_plan.specs.TraceLaws.{Part, has_mapping_on}

-- both traces of two decoded maps agree at this position
abbrev pub TraceAlikeAt : DecodedMap → DecodedMap → ℕ → ℕ → Type 0
TraceAlikeAt s t line col = (trace s line col ≡ trace t line col) × (clamped_trace s line col ≡ clamped_trace t line col)

-- The composition of two sorted decoded maps, simplified, has the traces of their composition.
abbrev pub SimplifiedComposed : Type 0
SimplifiedComposed = (a b : DecodedMap) → IsSortedMap a → IsSortedMap b → (line col : ℕ)
    → TraceAlikeAt (composed_decoded_maps (simplified_decoded_map a) (simplified_decoded_map b)) (composed_decoded_maps a b) line col

-- inputs, simplified
abbrev pub simplified_inputs : List (Text × DecodedMap) → List (Text × DecodedMap)
simplified_inputs inputs = map (λ input. (input.0, simplified_decoded_map input.1)) inputs

-- A sorted decoded map, simplified, remapped by sorted inputs, simplified, has the traces of the remapped decoded map.
abbrev pub SimplifiedRemapped : Type 0
SimplifiedRemapped = (a : DecodedMap) (inputs : List (Text × DecodedMap)) → IsSortedMap a → AllByRecursion (λ input. IsSortedMap input.1) inputs
    → (line col : ℕ) → TraceAlikeAt (remapped_decoded_map (simplified_decoded_map a) (simplified_inputs inputs)) (remapped_decoded_map a inputs) line col

-- A join has the same traces with a sorted part simplified, at each position of it that comes to stand on a line where no other
-- part has a mapping.
abbrev pub SimplifiedJoined : Type 0
SimplifiedJoined = (before : List Part) (part : Part) (after : List Part) (line col : ℕ) → IsSortedMap part.0
    → list_any (has_mapping_on (line + part.1.line)) (before ++ after) ≡ false
    → TraceAlikeAt (joined_decoded_maps (before ++ (simplified_decoded_map part.0, part.1) ∷ after)) (joined_decoded_maps (before ++ part ∷ after))
    (line + part.1.line) (shifted_column part.1 line col)
