-- Where a JSON value or a JSON text has its first fault: by itself in the order of `shape` and then of the fields that it gives, with
-- sections in that of `section_after`.
use Rattle.std.specs.Prelude.{◌≡◌, ◌≢◌, ℕ, true, List, [], ◌∷◌, ◌++◌, length, codes, Option, Some}
use Rattle.std.specs.Prelude.{None, Result, Ok, Err, IfOk, IfErr, if◌then◌else◌, is_some, IsSomeAnd}
use Rattle.std.specs.Prelude.{nat_le, position, ◌≤◌}
use Rattle.std.specs.Option.{option_map, option_and_then, option_or}
use Rattle.serde_json.specs.Data.{Data, Items, no_items, item}
use Rattle.serde_json.specs.Find.{get, as_object}
use Rattle.serde_json.specs.Read.{read}
use Rattle.oxc_sourcemap_tokens.specs.declared.errors.error.Error.{Error}
use Rattle.oxc_sourcemap_tokens.specs.declared.errors.error.Error.TheVariants.{OutOfMemory}
use Rattle.oxc_sourcemap_tokens.specs.declared.errors.error.Field.{Field}
use Rattle.oxc_sourcemap_tokens.specs.declared.errors.error.Field.TheVariants.{Map as MapField}
use Rattle.oxc_sourcemap_tokens.specs.declared.errors.error.Field.TheVariants.{Offset as OffsetField}
use Rattle.oxc_sourcemap_tokens.specs.declared.errors.error.Field.TheVariants.{Sections as SectionsField}
use Rattle.oxc_sourcemap_tokens.specs.declared.errors.fault.Fault.{Fault}
use Rattle.oxc_sourcemap_tokens.specs.declared.errors.fault.FaultPlace.{FaultPlace}
use Rattle.oxc_sourcemap_tokens.specs.declared.errors.fault.FaultSpot.{FaultSpot}
use Rattle.oxc_sourcemap_tokens.specs.declared.errors.fault.FaultSpot.TheVariants.{Segment, Member}
use Rattle.oxc_sourcemap_tokens.specs.declared.errors.fault.FaultSpot.TheVariants.{Entry}
use Rattle.oxc_sourcemap_tokens.specs.declared.errors.fault.FaultSpot.TheVariants.{Reading as ReadingSpot}
use Rattle.oxc_sourcemap_tokens.specs.declared.position.Position.{Position}
use Rattle.oxc_sourcemap_tokens.specs.Places.{place_in}
use Rattle.oxc_sourcemap_mappings.specs.SegmentPlaces.{fault_place}
use Rattle.oxc_sourcemap_parts.specs.Record.{Text, MapRecord}
use Rattle.oxc_sourcemap_join.specs.Joined.{joined}
use Rattle.oxc_sourcemap_json.specs.JsonRecord.{JsonRecord}
use Rattle.oxc_sourcemap_json.specs.Shape.{◌>>=◌, shape, file_of}
use Rattle.oxc_sourcemap_json.specs.ShapeSpots.{shape_spot, ignored_field}
use Rattle.oxc_sourcemap_json.specs.Decoded.{decoded}
use Rattle.oxc_sourcemap_json.specs.JoinLimits.{is_map_within_limits}
use Rattle.oxc_sourcemap_json.specs.ReadMap.{sections_in}
use Rattle.oxc_sourcemap_json.specs.Section.{is_indexed, as_plain}
use Rattle.oxc_sourcemap_json.specs.Sections.{offset_after, section_map}
use Rattle.oxc_sourcemap_json.specs.TextBytes.{IsByteAt}

-- a spot as a place, in a text without sections
abbrev pub place_at : FaultSpot → FaultPlace
place_at spot = place_in None spot

-- the entry of the ignore list, which is this member, that is no source
abbrev pub ignored_spot : Field → JsonRecord → Option FaultSpot
ignored_spot field j = option_map (Entry field) (option_and_then (position (λ id. nat_le (length j.sources) id)) j.ignore_list)

-- the segment with a fault
abbrev pub mappings_spot : JsonRecord → Option FaultSpot
mappings_spot j = option_map Segment (fault_place j.mappings (length j.names) (length j.sources))

-- where the fields of a map have a fault: in the ignore list, then in the mappings
abbrev pub fields_spot : Field → JsonRecord → Option FaultSpot
fields_spot field j = option_or (ignored_spot field j) (mappings_spot j)

abbrev pub spot_in : Data → Result JsonRecord Error → Option FaultSpot
spot_in d (Ok fields) = fields_spot (ignored_field d) fields
spot_in d (Err error) = Some (shape_spot d error)

-- where a value, as a map by itself, has its first fault
unfoldable pub value_spot : Data → Option FaultSpot
value_spot d = spot_in d (shape d)

-- such a map, or its first fault
abbrev pub read_alone : Data → Result MapRecord Error
read_alone d = shape d >>= decoded

-- ---- with the sections of an indexed map

-- the map of a section, if it is an object that is no indexed map
abbrev pub plain_map : Data → Option Data
plain_map d = option_and_then as_plain (get (codes "map") d)

-- where that has its first fault; if it is none, at the member
abbrev pub map_spot : Option Data → Option FaultSpot
map_spot None = Some (Member MapField)
map_spot (Some d) = value_spot d

-- where the map of section `k` has its first fault
abbrev pub map_place : ℕ → Data → Option FaultPlace
map_place k d = option_map (place_in (Some k)) (map_spot (plain_map d))

-- where section `k` is at fault by its offset, which is missing, misshapen or out of order: at that, or at the section if it is no
-- object
abbrev pub offset_place : ℕ → Data → FaultPlace
offset_place k d = if is_some (as_object d) then place_in (Some k) (Member OffsetField) else place_in None (Entry SectionsField k)

-- where the map of section `k` makes the join pass a limit
abbrev pub limit_place : ℕ → FaultPlace
limit_place k = place_in (Some k) (Member MapField)

-- what follows a step that gave a value, or the place of its fault
abbrev pub or_place : {A : Type 0} → Result A Error → (Error → Option FaultPlace) → (A → Option FaultPlace) → Option FaultPlace
or_place (Ok x) place next = next x
or_place (Err fault) place next = place fault

-- The place of the first fault of these sections, after those in front of them: of each section its offset, its map, and the limits
-- of the join up to it.
abbrev pub sections_place : List (MapRecord × Position) → Items → Option FaultPlace
sections_place front no_items = None
sections_place front (item d ds) =
    or_place (offset_after front d) (λ fault. Some (offset_place (length front) d)) (λ place.
    or_place (section_map d) (λ fault. map_place (length front) d) (λ m.
    if is_map_within_limits (joined (front ++ (m, place) ∷ [])) then sections_place (front ++ (m, place) ∷ []) ds
    else Some (limit_place (length front))))

-- the place of the first fault of an indexed map: of its version and its file, then of its list of sections, then of these
abbrev pub indexed_place : Data → Option FaultPlace
indexed_place d =
    or_place (file_of d) (λ fault. Some (place_in None (shape_spot d fault))) (λ file.
    or_place (sections_in d) (λ fault. Some (place_in None (Member SectionsField))) (sections_place []))

-- where a value has its first fault, as an indexed map or as a map by itself
unfoldable pub value_place : Data → Option FaultPlace
value_place d = if is_indexed d then indexed_place d else option_map (place_in None) (value_spot d)

-- A place at which this text is not JSON: a byte of it, or its end, from this index on, with its line and its column.
abbrev pub IsByteSpot : ℕ → Text → FaultSpot → Type 0
IsByteSpot from text (ReadingSpot line column byte) = (from ≤ byte) × IsByteAt text line column byte
IsByteSpot from text spot = ⊥

abbrev pub IsBytePlaceFrom : ℕ → Text → FaultPlace → Type 0
IsBytePlaceFrom from text place = (place.text ≡ None) × (place.section ≡ None) × IsByteSpot from text place.spot

abbrev pub IsBytePlace : Text → FaultPlace → Type 0
IsBytePlace text place = IsBytePlaceFrom 0 text place

-- If a text is JSON, its value has no place of a fault.
abbrev pub HasNoPlace : Text → Type 0
HasNoPlace text = (d : Data) → read text ≡ Some d → value_place d ≡ None

-- A fault, unless it is want of memory, has a place: that of the first fault of this text, or, if the text is not JSON, a place in it.
abbrev pub IsPlacedIn : Text → Fault → Type 0
IsPlacedIn text f =
    (f.error ≢ OutOfMemory) → ((d : Data) → read text ≡ Some d → value_place d ≡ f.place)
    × (read text ≡ None → IsSomeAnd f.place (IsBytePlace text)) × (is_some f.place ≡ true)

-- The place of the error of the call is that of the first fault of this text; where it succeeds, there is none.
abbrev pub LocatesIn : {A : Type 0} → Text → Result A Fault → Type 0
LocatesIn text result = IfOk result (λ x. HasNoPlace text) × IfErr result (IsPlacedIn text)
