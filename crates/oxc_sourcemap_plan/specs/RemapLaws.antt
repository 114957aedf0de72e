-- What remapping keeps, and that it is associative.
use Rattle.std.specs.Prelude.{◌≡◌, ◌⊎◌, ◌+◌, ◌<◌, ◌≤◌, Bool, true, List, [], ◌∷◌, ◌++◌, map, length}
use Rattle.std.specs.Prelude.{None, Ok, Err, IfSome}
use Rattle.std.specs.List.{AllByRecursion, AllZip, flat_map, list_all}
use Rattle.oxc_sourcemap_tokens.specs.declared.errors.error.Error.TheVariants.{TooLarge}
use Rattle.oxc_sourcemap_tokens.specs.declared.position.Position.{Position}
use Rattle.oxc_sourcemap_tokens.specs.Token.{AreInBounds}
use Rattle.oxc_sourcemap_parts.specs.Record.{Text, MapRecord}
use Rattle.oxc_sourcemap_parts.specs.Sorted.{are_tokens_sorted}
use Rattle.oxc_sourcemap_parts.specs.Sound.{AreIdsInRange, IsSound}
use Rattle.oxc_sourcemap_parts.specs.DecodedMap.{DecodedSource, DecodedMap, decoded_map_of}
use Rattle.oxc_sourcemap_steps.specs.Composed.{composed}
use Rattle.oxc_sourcemap_join.specs.Joined.{joined}
use Rattle.oxc_sourcemap_steps.specs.Blocks.{marked_sources, marked_for, ignored_ids}
use Rattle.oxc_sourcemap_steps.specs.Inputs.{decoded_inputs, inputs_fault, NoInputColumnGoesBack}
use Rattle.oxc_sourcemap_steps.specs.Remapped.{remapped, remapping, SomeRemapping}
use Rattle.oxc_sourcemap_plan.specs.Repeats.{EqualUpToRepeats}
use Rattle.oxc_sourcemap_plan.specs.JoinedDecodedMaps.{joined_decoded_maps}
use Rattle.oxc_sourcemap_plan.specs.JoinLaws.{AreAllInRange, AreIgnoreListsInRange, StandsFor}
use Rattle.oxc_sourcemap_plan.specs.ComposedDecodedMaps.{composed_decoded_maps}
use Rattle.oxc_sourcemap_plan.specs.ComposeLaws.{AreSourceIdsInRange, AreTokensInRange}
use Rattle.oxc_sourcemap_plan.specs.RemappedDecodedMaps.{remapped_decoded_map}

-- ---- decoded maps
-- The decoded map of a remapped map is the remapping of the decoded maps. Nothing is asked of the maps: ids may be out of range.
abbrev pub DecodedMapOfRemapping : Type 0
DecodedMapOfRemapping = (a : MapRecord) (inputs : List (Text × MapRecord))
    → decoded_map_of (remapped a inputs) ≡ remapped_decoded_map (decoded_map_of a) (decoded_inputs inputs)

-- The sources of a remapped map with whether they are ignored: a source that stays is ignored if it was, one of an input if the
-- input ignores it.
abbrev pub RemappingIgnores : Type 0
RemappingIgnores = (a : DecodedMap) (inputs : List (Text × DecodedMap))
    → marked_sources (remapped_decoded_map a inputs) ≡ flat_map (marked_for inputs) (marked_sources a)

-- a decoded map as remapping leaves it: without source root, and with its ignored sources listed ascending, each once; none
-- without entries
abbrev pub as_remapped : DecodedMap → DecodedMap
as_remapped a = record a { source_root = None; ignore_list = ignored_ids (marked_sources a) }

-- Without inputs a decoded map stays, but for its source root and for how its ignore list is written.
abbrev pub NothingRemapped : Type 0
NothingRemapped = (a : DecodedMap) → remapped_decoded_map a [] ≡ as_remapped a

-- ---- association
-- inputs, each remapped by others, and after them the others: for sources that have no input among the first
abbrev pub inputs_through : List (Text × DecodedMap) → List (Text × DecodedMap) → List (Text × DecodedMap)
inputs_through bs cs = map (λ b. (b.0, remapped_decoded_map b.1 cs)) bs ++ cs

-- Remapping by inputs and then by others is remapping by the inputs that go through the others.
abbrev pub RemappedDecodedMapsAssociative : Type 0
RemappedDecodedMapsAssociative = (a : DecodedMap) (bs cs : List (Text × DecodedMap))
    → remapped_decoded_map (remapped_decoded_map a bs) cs ≡ remapped_decoded_map a (inputs_through bs cs)

-- the same of maps
abbrev pub maps_through : List (Text × MapRecord) → List (Text × MapRecord) → List (Text × MapRecord)
maps_through bs cs = map (λ b. (b.0, remapped b.1 cs)) bs ++ cs

abbrev pub RemappedMapsAssociative : Type 0
RemappedMapsAssociative = (a : MapRecord) (bs cs : List (Text × MapRecord))
    → decoded_map_of (remapped (remapped a bs) cs) ≡ decoded_map_of (remapped a (maps_through bs cs))

-- ---- joins
-- the entries of the ignore list of each decoded map are in range
abbrev pub AreIgnoredInRange : List (DecodedMap × Position) → Type 0
AreIgnoredInRange ss = AllByRecursion (λ s. IfSome s.0.ignore_list (AllByRecursion (λ id. id < length s.0.sources))) ss

-- the parts of a join, each remapped
abbrev pub each_remapped : List (Text × DecodedMap) → List (DecodedMap × Position) → List (DecodedMap × Position)
each_remapped inputs ss = map (λ s. (remapped_decoded_map s.0 inputs, s.1)) ss

-- A join that is remapped is the join of the remapped parts.
abbrev pub JoinRemapped : Type 0
JoinRemapped = (ss : List (DecodedMap × Position)) (inputs : List (Text × DecodedMap)) → AreIgnoredInRange ss
    → remapped_decoded_map (joined_decoded_maps ss) inputs ≡ joined_decoded_maps (each_remapped inputs ss)

-- The same of maps, up to repeats, if all ids are in range.
abbrev pub JoinedMapsRemapped : Type 0
JoinedMapsRemapped = (ms : List (MapRecord × Position)) (inputs : List (Text × MapRecord)) → AreAllInRange ms → AreIgnoreListsInRange ms
    → EqualUpToRepeats (decoded_map_of (remapped (joined ms) inputs)) (decoded_map_of (joined (map (λ m. (remapped m.0 inputs, m.1)) ms)))

-- ---- compositions
-- Composing with a remapped map is remapping the composed one.
abbrev pub CompositionRemapped : Type 0
CompositionRemapped = (m a : DecodedMap) (inputs : List (Text × DecodedMap))
    → composed_decoded_maps m (remapped_decoded_map a inputs) ≡ remapped_decoded_map (composed_decoded_maps m a) inputs

-- The same of maps, if the source ids of the first one and the ids of the second one's tokens are in range.
abbrev pub ComposedMapsRemapped : Type 0
ComposedMapsRemapped = (m a : MapRecord) (inputs : List (Text × MapRecord)) → AreSourceIdsInRange m → AreTokensInRange a
    → decoded_map_of (composed m (remapped a inputs)) ≡ decoded_map_of (remapped (composed m a) inputs)

-- all mappings that are mapped point into sources of this path
abbrev pub PointsInto : Text → DecodedMap → Type 0
PointsInto path a = AllByRecursion (λ e. IfSome e.original (λ o. o.source.path ≡ path)) a.mappings

-- A decoded map of one source that has an input is composed with the input, but for the source root and how the ignore list is
-- written.
abbrev pub OneRemapped : Type 0
OneRemapped = (a b : DecodedMap) (source : DecodedSource) (others : List (Text × DecodedMap))
    → a.sources ≡ source ∷ [] → PointsInto source.path a
    → remapped_decoded_map a ((source.path, b) ∷ others) ≡ as_remapped (composed_decoded_maps a b)

-- The same of maps, if the source ids of the first one and the ids of the second one's tokens are in range.
abbrev pub OneMapRemapped : Type 0
OneMapRemapped = (a b : MapRecord) (path : Text) (others : List (Text × MapRecord))
    → a.sources ≡ path ∷ [] → AreSourceIdsInRange a → AreTokensInRange b
    → decoded_map_of (remapped a ((path, b) ∷ others)) ≡ as_remapped (decoded_map_of (composed a b))

-- ---- repeats
-- each input is for the path of that in the other list, and equal to it up to repeats
abbrev pub AreInputsEqualUpToRepeats : List (Text × DecodedMap) → List (Text × DecodedMap) → Type 0
AreInputsEqualUpToRepeats bs cs = AllZip (λ b c. (b.0 ≡ c.0) × EqualUpToRepeats b.1 c.1) bs cs

-- Decoded maps that are equal up to repeats stay so when they are remapped, on all sides.
abbrev pub RemappingKeepsEqualUpToRepeats : Type 0
RemappingKeepsEqualUpToRepeats = (s t : DecodedMap) (bs cs : List (Text × DecodedMap)) → EqualUpToRepeats s t
    → AreInputsEqualUpToRepeats bs cs → EqualUpToRepeats (remapped_decoded_map s bs) (remapped_decoded_map t cs)

-- each input is for the path of the decoded map in the other list, and stands for it
abbrev pub InputsStandFor : List (Text × MapRecord) → List (Text × DecodedMap) → Type 0
InputsStandFor inputs ss = AllZip (λ b s. (b.0 ≡ s.0) × StandsFor b.1 s.1) inputs ss

-- The remapping of maps that stand for decoded maps stands for the remapping of these decoded maps.
abbrev pub RemappingStandsFor : Type 0
RemappingStandsFor = (a : MapRecord) (inputs : List (Text × MapRecord)) (s : DecodedMap) (ss : List (Text × DecodedMap))
    → StandsFor a s → InputsStandFor inputs ss → StandsFor (remapped a inputs) (remapped_decoded_map s ss)

-- ---- soundness, tokens and names
-- A remapped map is sorted exactly if the first map is, whatever the inputs are.
abbrev pub RemappingSorted : Type 0
RemappingSorted = (a : MapRecord) (inputs : List (Text × MapRecord))
    → are_tokens_sorted (remapped a inputs).tokens ≡ are_tokens_sorted a.tokens

-- The ids of a remapped map are in range, whatever the maps are.
abbrev pub RemappingInRange : Type 0
RemappingInRange = (a : MapRecord) (inputs : List (Text × MapRecord)) → AreIdsInRange (remapped a inputs)

-- So it is sound if the first map is, also if inputs are not.
abbrev pub RemappingIsSound : Type 0
RemappingIsSound = (a : MapRecord) (inputs : List (Text × MapRecord)) → IsSound a → IsSound (remapped a inputs)

-- Where columns go back on a line of an input, there are several results. The ids of each are in range, it is sorted exactly if
-- the first map is, and it is sound if the first map is.
abbrev pub SomeRemappingIsSound : Type 0
SomeRemappingIsSound = (a m : MapRecord) (inputs : List (Text × MapRecord)) → SomeRemapping a inputs (Ok m)
    → AreIdsInRange m × (are_tokens_sorted m.tokens ≡ are_tokens_sorted a.tokens) × (IsSound a → IsSound m)

-- A remapped map has as many tokens as the first map, and as many contents as sources.
abbrev pub RemappingCounts : Type 0
RemappingCounts = (a : MapRecord) (inputs : List (Text × MapRecord))
    → (length (remapped a inputs).tokens ≡ length a.tokens)
    × (length (remapped a inputs).source_contents ≡ length (remapped a inputs).sources)

-- the names of inputs, in order
abbrev pub names_of_inputs : List (Text × MapRecord) → List Text
names_of_inputs inputs = flat_map (λ input. input.1.names) inputs

-- A test that holds of all names of the maps holds of those of the remapped map, which has no more than they have together.
abbrev pub RemappingNames : Type 0
RemappingNames = (a : MapRecord) (inputs : List (Text × MapRecord)) →
    ((test : Text → Bool) → list_all test a.names ≡ true → list_all test (names_of_inputs inputs) ≡ true
    → list_all test (remapped a inputs).names ≡ true)
    × (length (remapped a inputs).names ≤ length a.names + length (names_of_inputs inputs))

-- ---- results
-- the maps of inputs are sorted
abbrev pub AreInputsSorted : List (Text × MapRecord) → Type 0
AreInputsSorted inputs = AllByRecursion (λ input. are_tokens_sorted input.1.tokens ≡ true) inputs

-- On no line of sorted inputs do columns go back, and they have no fault.
abbrev pub SortedInputsGoOn : Type 0
SortedInputsGoOn = (inputs : List (Text × MapRecord)) → AreInputsSorted inputs
    → NoInputColumnGoesBack inputs × (inputs_fault inputs ≡ None)

-- If no input has a fault, the result is the remapped map or `TooLarge`.
abbrev pub RemappingAnswered : Type 0
RemappingAnswered = (a : MapRecord) (inputs : List (Text × MapRecord)) → inputs_fault inputs ≡ None
    → (remapping a inputs ≡ Ok (remapped a inputs)) ⊎ (remapping a inputs ≡ Err TooLarge)

-- It is `TooLarge` only if the remapped map has more sources than there are ids, or the maps have more names.
abbrev pub RemappingTooLarge : Type 0
RemappingTooLarge = (a : MapRecord) (inputs : List (Text × MapRecord)) → remapping a inputs ≡ Err TooLarge
    → (4294967295 < length (remapped a inputs).sources) ⊎ (4294967295 < length a.names + length (names_of_inputs inputs))

-- the tokens of inputs are in bounds
abbrev pub AreInputsInBounds : List (Text × MapRecord) → Type 0
AreInputsInBounds inputs = AllByRecursion (λ input. AreInBounds input.1.tokens) inputs

-- If the tokens of all maps are in bounds, so are those of the remapped map, if there is one.
abbrev pub RemappingInBounds : Type 0
RemappingInBounds = (a m : MapRecord) (inputs : List (Text × MapRecord)) → AreInBounds a.tokens → AreInputsInBounds inputs
    → remapping a inputs ≡ Ok m → AreInBounds m.tokens
