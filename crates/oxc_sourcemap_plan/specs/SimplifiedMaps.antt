-- What simplified maps are, by what the maps stand for.
use Rattle.std.specs.Prelude.{◌≡◌, ◌≤◌, Bool, true, length}
use Rattle.std.specs.List.{list_all}
use Rattle.oxc_sourcemap_tokens.specs.Token.{AreInBounds}
use Rattle.oxc_sourcemap_parts.specs.DecodedMap.{DecodedMap}
use Rattle.oxc_sourcemap_parts.specs.Record.{Text, MapRecord}
use Rattle.oxc_sourcemap_steps.specs.Simplified.{simplified_decoded_map, simplified, fits}
use Rattle.oxc_sourcemap_plan.specs.Repeats.{EqualUpToRepeats}
use Rattle.oxc_sourcemap_plan.specs.JoinLaws.{StandsFor}

-- Decoded maps that are equal up to repeats are equal once they are simplified.
abbrev pub SimplifyingEndsRepeats : Type 0
SimplifyingEndsRepeats = (s t : DecodedMap) → EqualUpToRepeats s t → simplified_decoded_map s ≡ simplified_decoded_map t

-- If a map stands for a decoded map, it does so once both are simplified.
abbrev pub SimplifyingStandsFor : Type 0
SimplifyingStandsFor = (r : MapRecord) (s : DecodedMap) → StandsFor r s → StandsFor (simplified r) (simplified_decoded_map s)

-- A simplified map has no more tokens and no more sources than the map, and as many contents as sources.
abbrev pub SimplifyingCounts : Type 0
SimplifyingCounts = (r : MapRecord)
    → (length (simplified r).tokens ≤ length r.tokens)
    × (length (simplified r).sources ≤ length r.sources)
    × (length (simplified r).source_contents ≡ length (simplified r).sources)

-- A test that holds of all names of a map holds of those of the simplified map, which has no more.
abbrev pub SimplifyingNames : Type 0
SimplifyingNames = (r : MapRecord) →
    ((test : Text → Bool) → list_all test r.names ≡ true → list_all test (simplified r).names ≡ true)
    × (length (simplified r).names ≤ length r.names)

-- If the tokens of a map are in bounds and the simplified map fits, its tokens are in bounds.
abbrev pub SimplifyingInBounds : Type 0
SimplifyingInBounds = (r : MapRecord) → AreInBounds r.tokens → fits (simplified r) ≡ true → AreInBounds (simplified r).tokens
