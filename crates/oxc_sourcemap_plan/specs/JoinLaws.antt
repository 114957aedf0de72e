-- What joins and dropping repeats leave as it is.
use Rattle.std.specs.Prelude.{◌≡◌, ℕ, ◌+◌, ◌<◌, ◌≤◌, Bool, true, List, [], ◌∷◌, ◌++◌, map, length}
use Rattle.std.specs.Prelude.{Some, None, IfSome}
use Rattle.std.specs.List.{AllByRecursion, AllZip, flat_map}
use Rattle.oxc_sourcemap_tokens.specs.declared.token.TokenChunk.{TokenChunk}
use Rattle.oxc_sourcemap_tokens.specs.Chunks.{ChunksFit}
use Rattle.oxc_sourcemap_parts.specs.Record.{MapRecord}
use Rattle.oxc_sourcemap_parts.specs.Sorted.{are_tokens_sorted}
use Rattle.oxc_sourcemap_parts.specs.Sound.{IsInRange, IsSound}
use Rattle.oxc_sourcemap_parts.specs.DecodedMap.{DecodedMapping, DecodedMap, decoded_map_of}
use Rattle.oxc_sourcemap_lookup.specs.Trace.{trace, clamped_trace}
use Rattle.oxc_sourcemap_tokens.specs.declared.position.Position.{Position}
use Rattle.oxc_sourcemap_join.specs.Joined.{at_line, at_lines, added, joined}
use Rattle.oxc_sourcemap_plan.specs.Repeats.{decoded_map_without_repeats, EqualUpToRepeats}
use Rattle.oxc_sourcemap_plan.specs.Repeats.{is_sorted_decoded_map}
use Rattle.oxc_sourcemap_plan.specs.JoinedDecodedMaps.{joined_decoded_maps}

-- ---- dropping repeats
-- the two decoded maps have the same trace everywhere, exact and clamped
abbrev pub HaveSameTraces : DecodedMap → DecodedMap → Type 0
HaveSameTraces s t = (line col : ℕ)
    → (trace s line col ≡ trace t line col) × (clamped_trace s line col ≡ clamped_trace t line col)

-- Dropping repeats changes no trace, and a decoded map is sorted exactly if it is sorted without its repeats.
abbrev pub RepeatsHarmless : Type 0
RepeatsHarmless = (s : DecodedMap)
    → HaveSameTraces (decoded_map_without_repeats s) s
    × (is_sorted_decoded_map (decoded_map_without_repeats s) ≡ is_sorted_decoded_map s)

-- Decoded maps that are equal up to repeats have the same traces.
abbrev pub TracesAgree : Type 0
TracesAgree = (s t : DecodedMap) → EqualUpToRepeats s t → HaveSameTraces s t

-- a test of lists of mappings whose result stays the same if a mapping is listed twice in a row instead of once
abbrev pub IsBlindToRepeats : (List DecodedMapping → Bool) → Type 0
IsBlindToRepeats test = (front : List DecodedMapping) (e : DecodedMapping) (after : List DecodedMapping)
    → test (front ++ e ∷ e ∷ after) ≡ test (front ++ e ∷ after)

-- A test that is blind to repeats has one result for decoded maps that are equal up to repeats.
abbrev pub TestsAgree : Type 0
TestsAgree = (test : List DecodedMapping → Bool) → IsBlindToRepeats test
    → (s t : DecodedMap) → EqualUpToRepeats s t → test s.mappings ≡ test t.mappings

-- ---- joins of decoded maps
-- each decoded map is equal up to repeats to the other list's, and at the same offset
abbrev pub AreEqualUpToRepeats : List (DecodedMap × Position) → List (DecodedMap × Position) → Type 0
AreEqualUpToRepeats ss ts = AllZip (λ s t. EqualUpToRepeats s.0 t.0 × (s.1 ≡ t.1)) ss ts

-- Joins of decoded maps that are equal up to repeats are equal up to repeats.
abbrev pub JoinKeepsEqualUpToRepeats : Type 0
JoinKeepsEqualUpToRepeats = (ss ts : List (DecodedMap × Position)) → AreEqualUpToRepeats ss ts
    → EqualUpToRepeats (joined_decoded_maps ss) (joined_decoded_maps ts)

-- ---- joins of maps
-- the source ids and name ids of each map are in range
abbrev pub AreAllInRange : List (MapRecord × Position) → Type 0
AreAllInRange ms = AllByRecursion (λ m. AllByRecursion (IsInRange (length m.0.names) (length m.0.sources)) m.0.tokens) ms

-- the decoded map of each map, at its offset
abbrev pub decoded_maps_of : List (MapRecord × Position) → List (DecodedMap × Position)
decoded_maps_of ms = map (λ m. (decoded_map_of m.0, m.1)) ms

-- If ids are in range, the decoded map of a join is equal up to repeats to the join of the decoded maps.
abbrev pub DecodedMapOfJoin : Type 0
DecodedMapOfJoin = (ms : List (MapRecord × Position)) → AreAllInRange ms
    → EqualUpToRepeats (decoded_map_of (joined ms)) (joined_decoded_maps (decoded_maps_of ms))

-- a sound map whose decoded map is equal up to repeats to this one
pub record StandsFor (r : MapRecord) (s : DecodedMap) : Type 0 where
  pub sound : IsSound r
  pub up_to_repeats : EqualUpToRepeats (decoded_map_of r) s

-- each map stands for the decoded map in the other list, at the same offset
abbrev pub AllStandFor : List (MapRecord × Position) → List (DecodedMap × Position) → Type 0
AllStandFor ms ss = AllZip (λ m s. StandsFor m.0 s.0 × (m.1 ≡ s.1)) ms ss

-- A join of maps that stand for decoded maps is sorted exactly if the join of the decoded maps is, and then stands for it.
abbrev pub JoinStandsFor : Type 0
JoinStandsFor = (ms : List (MapRecord × Position)) (ss : List (DecodedMap × Position)) → AllStandFor ms ss
    → (are_tokens_sorted (joined ms).tokens ≡ is_sorted_decoded_map (joined_decoded_maps ss))
    × (is_sorted_decoded_map (joined_decoded_maps ss) ≡ true → StandsFor (joined ms) (joined_decoded_maps ss))

-- the entries of the ignore list of each map are in range
abbrev pub AreIgnoreListsInRange : List (MapRecord × Position) → Type 0
AreIgnoreListsInRange ms = AllByRecursion (λ m. IfSome m.0.ignore_list (AllByRecursion (λ id. id < length m.0.sources))) ms

-- The ids of a join are in range if those of its maps are, even if it is not sorted: the ids of its tokens, and the entries of
-- its ignore list.
abbrev pub JoinInRange : Type 0
JoinInRange = (ms : List (MapRecord × Position)) →
    (AreAllInRange ms → AllByRecursion (IsInRange (length (joined ms).names) (length (joined ms).sources)) (joined ms).tokens)
    × (AreIgnoreListsInRange ms → IfSome (joined ms).ignore_list (AllByRecursion (λ id. id < length (joined ms).sources)))

-- The names of a join are those of its maps, in order.
abbrev pub JoinNames : Type 0
JoinNames = (ms : List (MapRecord × Position)) → (joined ms).names ≡ flat_map (λ m. m.0.names) ms

-- A join has no more tokens than its maps together.
abbrev pub JoinTokens : Type 0
JoinTokens = (ms : List (MapRecord × Position)) → length (joined ms).tokens ≤ length (flat_map (λ m. m.0.tokens) ms)

-- a join has chunks, one for each map, and they fit its tokens
pub record HasFittingChunks (ms : List (MapRecord × Position)) : Type 0 where
  pub chunks : List TokenChunk
  pub has : (joined ms).token_chunks ≡ Some chunks
  pub count : length chunks ≡ length ms
  pub fit : ChunksFit (joined ms).tokens chunks

-- Every join has fitting chunks, whatever its maps are.
abbrev pub JoinChunksFit : Type 0
JoinChunksFit = (ms : List (MapRecord × Position)) → HasFittingChunks ms

-- Joining one map more is adding it to the join of the others.
abbrev pub JoinOneMore : Type 0
JoinOneMore = (ms : List (MapRecord × Position)) (m : MapRecord) (offset : Position)
    → joined (ms ++ (m, offset) ∷ []) ≡ added (joined ms) m offset

-- ---- groups
-- a group: maps, each at a line of the group, and the line where the group begins
abbrev pub Group : Type 0
Group = List (MapRecord × ℕ) × ℕ

-- each group joined, at the beginning of its line
abbrev pub groups_joined : List Group → List (MapRecord × Position)
groups_joined groups = map (λ g. (joined (at_lines g.0), at_line g.1)) groups

-- the maps of all groups, each at the beginning of a line: the sum of its line in the group and the group's line
abbrev pub maps_of : List Group → List (MapRecord × Position)
maps_of groups = flat_map (λ g. map (λ m. (m.0, at_line (m.1 + g.1))) g.0) groups

-- a map, but for its chunks
abbrev pub without_chunks : MapRecord → MapRecord
without_chunks r = record r { token_chunks = None }

-- Joining maps in groups and then the groups is joining all maps, but for the chunks. All of them begin lines: at other columns
-- the position of a map depends on whether it begins on line 0 of its group.
abbrev pub JoinsAssociative : Type 0
JoinsAssociative = (groups : List Group)
    → without_chunks (joined (groups_joined groups)) ≡ without_chunks (joined (maps_of groups))
