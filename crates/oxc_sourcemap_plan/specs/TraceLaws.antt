-- What the traces of a composition, of a remapped map and of a join are, by the traces of the decoded maps that they are made of.
use Rattle.std.specs.Prelude.{◌≡◌, ℕ, ◌+◌, ◌-◌, Bool, true, false, ◌&&◌, ◌||◌, List, ◌∷◌, ◌++◌, map}
use Rattle.std.specs.Prelude.{filter, Option, Some, None, is_some, if◌then◌else◌, nat_lt, nat_le}
use Rattle.std.specs.Prelude.{◌==◌}
use Rattle.std.specs.List.{list_any}
use Rattle.std.specs.Option.{option_and_then, option_or}
use Rattle.oxc_sourcemap_tokens.specs.Token.{last}
use Rattle.oxc_sourcemap_tokens.specs.declared.position.Position.{Position}
use Rattle.oxc_sourcemap_parts.specs.Record.{Text, MapRecord}
use Rattle.oxc_sourcemap_parts.specs.Sorted.{are_tokens_sorted}
use Rattle.oxc_sourcemap_parts.specs.DecodedMap.{OriginalPosition, DecodedMap, decoded_map_of}
use Rattle.oxc_sourcemap_lookup.specs.Lookup.{first}
use Rattle.oxc_sourcemap_lookup.specs.Trace.{trace, clamped_trace}
use Rattle.oxc_sourcemap_steps.specs.Composed.{composed}
use Rattle.oxc_sourcemap_join.specs.Joined.{shifted_column, joined}
use Rattle.oxc_sourcemap_steps.specs.Inputs.{input_for, decoded_inputs}
use Rattle.oxc_sourcemap_steps.specs.Remapped.{remapped}
use Rattle.oxc_sourcemap_plan.specs.Repeats.{is_sorted_decoded_map}
use Rattle.oxc_sourcemap_plan.specs.JoinedDecodedMaps.{lowered, joined_decoded_maps}
use Rattle.oxc_sourcemap_plan.specs.JoinLaws.{AreAllInRange, decoded_maps_of}
use Rattle.oxc_sourcemap_plan.specs.ComposedDecodedMaps.{composed_decoded_maps}
use Rattle.oxc_sourcemap_plan.specs.ComposeLaws.{AreSourceIdsInRange, AreTokensInRange}
use Rattle.oxc_sourcemap_plan.specs.RemappedDecodedMaps.{remapped_decoded_map}

-- ---- compositions
-- What an original position leads to, by the trace found at its line and column: to what that trace says, with the name of the
-- position if that has none; to nothing if nothing is found, or an unmapped mapping.
abbrev pub leads_to : OriginalPosition → Option (Option OriginalPosition) → Option OriginalPosition
leads_to o None = None
leads_to o (Some None) = None
leads_to o (Some (Some found)) = Some (record found { name = option_or found.name o.name })

-- A trace led on through a decoded map, by its clamped trace at the line and column of the original position. Nothing stays
-- nothing, and unmapped stays unmapped.
abbrev pub led_through : DecodedMap → Option (Option OriginalPosition) → Option (Option OriginalPosition)
led_through b None = None
led_through b (Some None) = Some None
led_through b (Some (Some o)) = Some (leads_to o (clamped_trace b o.src_line o.src_col))

-- The traces of c, exact and clamped, are those of a, led on through b.
abbrev pub TracesLedThrough : DecodedMap → DecodedMap → DecodedMap → Type 0
TracesLedThrough c a b = (line col : ℕ)
    → (trace c line col ≡ led_through b (trace a line col))
    × (clamped_trace c line col ≡ led_through b (clamped_trace a line col))

-- The traces of a composition are those of the first decoded map, led on through the second one.
abbrev pub TracesOfComposition : Type 0
TracesOfComposition = (a b : DecodedMap) → TracesLedThrough (composed_decoded_maps a b) a b

-- The same of maps, if the source ids of the first one and the ids of the second one's tokens are in range.
abbrev pub TracesOfComposedMaps : Type 0
TracesOfComposedMaps = (a b : MapRecord) → AreSourceIdsInRange a → AreTokensInRange b
    → TracesLedThrough (decoded_map_of (composed a b)) (decoded_map_of a) (decoded_map_of b)

-- ---- remapping
-- What an original position leads to whose source has this input, or none: to itself without an input; with one to what the
-- input's clamped trace says at its line and column, with the name of the position if that has none.
abbrev pub leads_by_input : Option DecodedMap → OriginalPosition → Option OriginalPosition
leads_by_input None o = Some o
leads_by_input (Some b) o = leads_to o (clamped_trace b o.src_line o.src_col)

-- A trace led on through the input for its source. Nothing stays nothing, and unmapped stays unmapped.
abbrev pub led_through_inputs : List (Text × DecodedMap) → Option (Option OriginalPosition) → Option (Option OriginalPosition)
led_through_inputs inputs None = None
led_through_inputs inputs (Some None) = Some None
led_through_inputs inputs (Some (Some o)) = Some (leads_by_input (input_for inputs o.source.path) o)

-- The traces of c, exact and clamped, are those of a, led on through inputs.
abbrev pub TracesLedThroughInputs : DecodedMap → DecodedMap → List (Text × DecodedMap) → Type 0
TracesLedThroughInputs c a inputs = (line col : ℕ)
    → (trace c line col ≡ led_through_inputs inputs (trace a line col))
    × (clamped_trace c line col ≡ led_through_inputs inputs (clamped_trace a line col))

-- The traces of a remapped decoded map are those of the first one, led on through the inputs.
abbrev pub TracesOfRemapping : Type 0
TracesOfRemapping = (a : DecodedMap) (inputs : List (Text × DecodedMap))
    → TracesLedThroughInputs (remapped_decoded_map a inputs) a inputs

-- The same of maps, whatever they are.
abbrev pub TracesOfRemappedMaps : Type 0
TracesOfRemappedMaps = (a : MapRecord) (inputs : List (Text × MapRecord))
    → TracesLedThroughInputs (decoded_map_of (remapped a inputs)) (decoded_map_of a) (decoded_inputs inputs)

-- ---- joins where a part has a line for itself
-- A part of a join is a decoded map and the offset where its code begins.
abbrev pub Part : Type 0
Part = DecodedMap × Position

-- some mapping of a part is on this line of the join
abbrev pub has_mapping_on : ℕ → Part → Bool
has_mapping_on line part = list_any (λ e. e.dst_line == line) (map (lowered part.1) part.0.mappings)

-- The traces of a join, exact and clamped, where this line and column of a part come to stand, are those of the part there.
abbrev pub TracesAreOfPart : List Part → Part → ℕ → ℕ → Type 0
TracesAreOfPart parts part line col =
    let line' = line + part.1.line in
    let col' = shifted_column part.1 line col in
    (trace (joined_decoded_maps parts) line' col' ≡ trace part.0 line col)
    × (clamped_trace (joined_decoded_maps parts) line' col' ≡ clamped_trace part.0 line col)

-- On a line of a part where no other part has a mapping, the traces of the join are those of the part, sorted or not.
abbrev pub TracesOnOwnLine : Type 0
TracesOnOwnLine = (before : List Part) (part : Part) (after : List Part) (line col : ℕ)
    → list_any (has_mapping_on (line + part.1.line)) (before ++ after) ≡ false
    → TracesAreOfPart (before ++ part ∷ after) part line col

-- ---- joins in order
-- some mapping of a part is at this very position of the join
abbrev pub has_mapping_at : ℕ → ℕ → Part → Bool
has_mapping_at line col part = list_any (λ e. e.dst_line == line && e.dst_col == col) (map (lowered part.1) part.0.mappings)

-- a part begins at this position of the join or before it
abbrev pub has_begun : ℕ → ℕ → Position → Bool
has_begun line col offset = nat_lt offset.line line || (offset.line == line && nat_le offset.column col)

-- the column of a part that stands at this position of the join; 0 if the position is on the part's first line, in front of it
abbrev pub column_in : ℕ → ℕ → Position → ℕ
column_in line col offset = if line == offset.line then col - offset.column else col

-- the trace of a part where it stands at this position of the join; none if it begins after it
abbrev pub trace_in : ℕ → ℕ → Part → Option (Option OriginalPosition)
trace_in line col part = if has_begun line col part.1 then trace part.0 (line - part.1.line) (column_in line col part.1) else None

-- the clamped trace of a part where it stands at this position of the join; none if it begins on a later line
abbrev pub clamped_trace_in : ℕ → ℕ → Part → Option (Option OriginalPosition)
clamped_trace_in line col part = if nat_le part.1.line line then clamped_trace part.0 (line - part.1.line) (column_in line col part.1) else None

-- the part that answers at a position: the first one with a mapping at the position itself, else the last one with a mapping
-- before it on its line
abbrev pub part_at : ℕ → ℕ → List Part → Option Part
part_at line col parts = option_or (first (filter (has_mapping_at line col) parts)) (last (filter (λ part. is_some (trace_in line col part)) parts))

-- the same, and if there is none the first one with a mapping on the line
abbrev pub clamped_part_at : ℕ → ℕ → List Part → Option Part
clamped_part_at line col parts = option_or (part_at line col parts) (first (filter (has_mapping_on line) parts))

-- The traces of s, exact and clamped, are those of the part that answers at the position.
abbrev pub TracesAreOfParts : DecodedMap → List Part → Type 0
TracesAreOfParts s parts = (line col : ℕ)
    → (trace s line col ≡ option_and_then (trace_in line col) (part_at line col parts))
    × (clamped_trace s line col ≡ option_and_then (clamped_trace_in line col) (clamped_part_at line col parts))

-- The traces of a sorted join are those of its parts.
abbrev pub TracesOfSortedJoin : Type 0
TracesOfSortedJoin = (parts : List Part) → is_sorted_decoded_map (joined_decoded_maps parts) ≡ true
    → TracesAreOfParts (joined_decoded_maps parts) parts

-- A line and a column of a part come to stand at a position of the join where that part answers: it has a mapping there or
-- before it on the line, no part before it has one at the position itself, and no part after it has begun there.
pub record IsAnsweredBy (before : List Part) (part : Part) (after : List Part) (line col : ℕ) : Type 0 where
  pub finds : is_some (trace part.0 line col) ≡ true
  pub none_at : list_any (has_mapping_at (line + part.1.line) (shifted_column part.1 line col)) before ≡ false
  pub none_begun : list_any (λ p. has_begun (line + part.1.line) (shifted_column part.1 line col) p.1) after ≡ false

-- At a position of a sorted join that lies in one part, the traces are those of that part.
abbrev pub TracesWithinPart : Type 0
TracesWithinPart = (before : List Part) (part : Part) (after : List Part) (line col : ℕ)
    → is_sorted_decoded_map (joined_decoded_maps (before ++ part ∷ after)) ≡ true
    → IsAnsweredBy before part after line col → TracesAreOfPart (before ++ part ∷ after) part line col

-- The traces of a sorted join of maps are those of its parts, if all ids are in range.
abbrev pub TracesOfJoinedMaps : Type 0
TracesOfJoinedMaps = (ms : List (MapRecord × Position)) → AreAllInRange ms → are_tokens_sorted (joined ms).tokens ≡ true
    → TracesAreOfParts (decoded_map_of (joined ms)) (decoded_maps_of ms)

-- The same on a line of a map where no other map has a token, sorted or not, if all ids are in range.
abbrev pub TracesOnOwnLineOfMaps : Type 0
TracesOnOwnLineOfMaps = (before : List (MapRecord × Position)) (m : MapRecord × Position) (after : List (MapRecord × Position)) (line col : ℕ)
    → AreAllInRange (before ++ m ∷ after)
    → list_any (has_mapping_on (line + m.1.line)) (decoded_maps_of (before ++ after)) ≡ false
    → let s = decoded_map_of (joined (before ++ m ∷ after)) in
    let line' = line + m.1.line in
    let col' = shifted_column m.1 line col in
    (trace s line' col' ≡ trace (decoded_map_of m.0) line col)
    × (clamped_trace s line' col' ≡ clamped_trace (decoded_map_of m.0) line col)
