-- What composition keeps, and that it is associative.
use Rattle.std.specs.Prelude.{◌≡◌, ◌≢◌, ◌↔◌, ◌⊎◌, ℕ, ◌+◌, ◌<◌, ◌≤◌, Bool, true, List, length}
use Rattle.std.specs.Prelude.{Result, Ok, Err, IfSome}
use Rattle.std.specs.List.{AllByRecursion, list_all}
use Rattle.oxc_sourcemap_tokens.specs.declared.errors.error.Error.{Error}
use Rattle.oxc_sourcemap_tokens.specs.declared.errors.error.Error.TheVariants.{SeveralSources}
use Rattle.oxc_sourcemap_tokens.specs.declared.errors.error.Error.TheVariants.{TooLarge}
use Rattle.oxc_sourcemap_tokens.specs.Token.{TokenRecord, AreInBounds}
use Rattle.oxc_sourcemap_parts.specs.Record.{Text, MapRecord}
use Rattle.oxc_sourcemap_parts.specs.Sorted.{are_tokens_sorted}
use Rattle.oxc_sourcemap_parts.specs.Sound.{IsInRange, AreIdsInRange, IsSound}
use Rattle.oxc_sourcemap_parts.specs.DecodedMap.{DecodedMap, decoded_map_of}
use Rattle.oxc_sourcemap_steps.specs.Composed.{composed, composition, NoColumnGoesBack}
use Rattle.oxc_sourcemap_plan.specs.Repeats.{EqualUpToRepeats}
use Rattle.oxc_sourcemap_plan.specs.ComposedDecodedMaps.{composed_decoded_maps}
use Rattle.oxc_sourcemap_plan.specs.JoinLaws.{StandsFor}

-- ---- decoded maps
-- the source ids of a map's tokens are in range
abbrev pub AreSourceIdsInRange : MapRecord → Type 0
AreSourceIdsInRange a = AllByRecursion (λ t. IfSome t.source_id (λ id. id < length a.sources)) a.tokens

-- the source ids and name ids of a map's tokens are in range
abbrev pub AreTokensInRange : MapRecord → Type 0
AreTokensInRange b = AllByRecursion (IsInRange (length b.names) (length b.sources)) b.tokens

-- If the source ids of the first map and all ids of the second one's tokens are in range, the decoded map of the composed map
-- is the composition of the decoded maps.
abbrev pub DecodedMapOfComposition : Type 0
DecodedMapOfComposition = (a b : MapRecord) → AreSourceIdsInRange a → AreTokensInRange b
    → decoded_map_of (composed a b) ≡ composed_decoded_maps (decoded_map_of a) (decoded_map_of b)

-- Decoded maps that are equal up to repeats stay equal up to repeats when they are composed, on either side.
abbrev pub CompositionKeepsEqualUpToRepeats : Type 0
CompositionKeepsEqualUpToRepeats = (s s' t t' : DecodedMap) → EqualUpToRepeats s s' → EqualUpToRepeats t t'
    → EqualUpToRepeats (composed_decoded_maps s t) (composed_decoded_maps s' t')

-- The composition of maps that stand for decoded maps stands for the composition of these decoded maps.
abbrev pub CompositionStandsFor : Type 0
CompositionStandsFor = (a b : MapRecord) (s t : DecodedMap) → StandsFor a s → StandsFor b t
    → StandsFor (composed a b) (composed_decoded_maps s t)

-- Composition of decoded maps is associative.
abbrev pub DecodedMapsAssociative : Type 0
DecodedMapsAssociative = (s t u : DecodedMap)
    → composed_decoded_maps (composed_decoded_maps s t) u ≡ composed_decoded_maps s (composed_decoded_maps t u)

-- ---- maps
-- a result composed with a map, and (`with_then`) a map composed with a result; an error stays
abbrev pub then_with : Result MapRecord Error → MapRecord → Result MapRecord Error
then_with (Ok ab) c = composition ab c
then_with (Err e) c = Err e

abbrev pub with_then : MapRecord → Result MapRecord Error → Result MapRecord Error
with_then a (Ok bc) = composition a bc
with_then a (Err e) = Err e

-- the two groupings of three maps
abbrev pub grouped_left : MapRecord → MapRecord → MapRecord → Result MapRecord Error
grouped_left a b c = then_with (composition a b) c

abbrev pub grouped_right : MapRecord → MapRecord → MapRecord → Result MapRecord Error
grouped_right a b c = with_then a (composition b c)

-- For sound maps, and without regard to limits: the decoded map of the composed map does not depend on the grouping.
abbrev pub ComposedMapsAssociative : Type 0
ComposedMapsAssociative = (a b c : MapRecord) → IsSound a → IsSound b → IsSound c
    → decoded_map_of (composed (composed a b) c) ≡ decoded_map_of (composed a (composed b c))

-- The two groupings of sound maps have equal decoded maps, if both give a map.
abbrev pub CompositionAssociative : Type 0
CompositionAssociative = (a b c : MapRecord) → IsSound a → IsSound b → IsSound c
    → (left right : MapRecord) → grouped_left a b c ≡ Ok left → grouped_right a b c ≡ Ok right
    → decoded_map_of left ≡ decoded_map_of right

-- the result is the error of a transformation map with several sources
abbrev pub IsSeveralSources : Result MapRecord Error → Type 0
IsSeveralSources answer = (n : ℕ) × (answer ≡ Err (SeveralSources n))

-- Unless one of them is `TooLarge`, the two groupings of sound maps are `SeveralSources` together or not at all.
abbrev pub GroupingsFailTogether : Type 0
GroupingsFailTogether = (a b c : MapRecord) → IsSound a → IsSound b → IsSound c
    → grouped_left a b c ≢ Err TooLarge → grouped_right a b c ≢ Err TooLarge
    → IsSeveralSources (grouped_left a b c) ↔ IsSeveralSources (grouped_right a b c)

-- the result is a map
abbrev pub IsAnswered : Result MapRecord Error → Type 0
IsAnswered answer = (m : MapRecord) × (answer ≡ Ok m)

-- Unless one of them is `TooLarge`, both groupings give a map if the first and the second map have at most one source.
abbrev pub GroupingsAnswered : Type 0
GroupingsAnswered = (a b c : MapRecord) → IsSound a → IsSound b → IsSound c
    → grouped_left a b c ≢ Err TooLarge → grouped_right a b c ≢ Err TooLarge
    → length a.sources ≤ 1 → length b.sources ≤ 1 → IsAnswered (grouped_left a b c) × IsAnswered (grouped_right a b c)

-- What follows from one result for the other. If the one is a map, the other is a map with the same decoded map, or `TooLarge`;
-- if it is `SeveralSources`, the other is so, too, or `TooLarge`.
pub record TellsOf (answer other : Result MapRecord Error) : Type 0 where
  pub of_map : (m : MapRecord) → answer ≡ Ok m
      → (other ≡ Err TooLarge) ⊎ ((n : MapRecord) × (other ≡ Ok n) × (decoded_map_of m ≡ decoded_map_of n))
  pub of_several : IsSeveralSources answer → (other ≡ Err TooLarge) ⊎ IsSeveralSources other

-- `TellsOf` holds of the two groupings of sound maps, either way round.
abbrev pub GroupingsTell : Type 0
GroupingsTell = (a b c : MapRecord) → IsSound a → IsSound b → IsSound c
    → TellsOf (grouped_left a b c) (grouped_right a b c) × TellsOf (grouped_right a b c) (grouped_left a b c)

-- ---- names, tokens and ids
-- The ids of a composed map are in range if those of the second map are.
abbrev pub CompositionInRange : Type 0
CompositionInRange = (a b : MapRecord) → AreIdsInRange b → AreIdsInRange (composed a b)

-- A composed map has as many tokens as the first map.
abbrev pub CompositionTokens : Type 0
CompositionTokens = (a b : MapRecord) → length (composed a b).tokens ≡ length a.tokens

-- A test that holds of all names of the two maps holds of those of the composed map, which has no more than they have together.
abbrev pub CompositionNames : Type 0
CompositionNames = (a b : MapRecord) →
    ((test : Text → Bool) → list_all test a.names ≡ true → list_all test b.names ≡ true → list_all test (composed a b).names ≡ true)
    × (length (composed a b).names ≤ length a.names + length b.names)

-- If an id of a composed map is too large, the two maps have more names than there are ids.
abbrev pub CompositionTooLarge : Type 0
CompositionTooLarge = (a b : MapRecord) → composition a b ≡ Err TooLarge → 4294967295 < length a.names + length b.names

-- If the tokens of both maps are in bounds, so are those of the composed map, if there is one.
abbrev pub CompositionInBounds : Type 0
CompositionInBounds = (a b m : MapRecord) → AreInBounds a.tokens → AreInBounds b.tokens
    → composition a b ≡ Ok m → AreInBounds m.tokens

-- On no line of sorted tokens do columns go back.
abbrev pub SortedGoesOn : Type 0
SortedGoesOn = (tokens : List TokenRecord) → are_tokens_sorted tokens ≡ true → NoColumnGoesBack tokens
