-- Where a text as it is found has the fault for which it is refused.
use Rattle.std.specs.Prelude.{◌≡◌, ◌≢◌, ℕ, ◌+◌, ◌-◌, length, codes, Option, Some, None, Result, Ok}
use Rattle.std.specs.Prelude.{Err}
use Rattle.std.specs.Prelude.{MatchOption, IsSomeAnd, IfOk, IfErr, ⊤, if◌then◌else◌}
use Rattle.std.specs.Option.{option_map, option_and_then, option_or}
use Rattle.serde_json.specs.Data.{Data, Items, no_items, item, Members, object}
use Rattle.serde_json.specs.Find.{get, as_object}
use Rattle.serde_json.specs.Read.{read}
use Rattle.oxc_sourcemap_tokens.specs.declared.errors.error.Error.{Error}
use Rattle.oxc_sourcemap_tokens.specs.declared.errors.error.Error.TheVariants.{OutOfMemory}
use Rattle.oxc_sourcemap_tokens.specs.declared.errors.error.Error.TheVariants.{TooLarge}
use Rattle.oxc_sourcemap_tokens.specs.declared.errors.error.Field.{Field}
use Rattle.oxc_sourcemap_tokens.specs.declared.errors.error.Field.TheVariants.{Object}
use Rattle.oxc_sourcemap_tokens.specs.declared.errors.error.Field.TheVariants.{Map as MapField}
use Rattle.oxc_sourcemap_tokens.specs.declared.errors.error.Field.TheVariants.{Sections as SectionsField}
use Rattle.oxc_sourcemap_tokens.specs.declared.position.Position.{Position}
use Rattle.oxc_sourcemap_mappings.specs.SegmentPlaces.{fault_place}
use Rattle.oxc_sourcemap_parts.specs.Record.{Text}
use Rattle.oxc_sourcemap_json.specs.JsonRecord.{JsonRecord}
use Rattle.oxc_sourcemap_json.specs.Shape.{shape, file_of}
use Rattle.oxc_sourcemap_json.specs.ReadMap.{sections_in}
use Rattle.oxc_sourcemap_json.specs.Section.{is_indexed, as_plain}
use Rattle.oxc_sourcemap_tokens.specs.declared.errors.fault.Fault.{Fault}
use Rattle.oxc_sourcemap_tokens.specs.declared.errors.fault.FaultPlace.{FaultPlace}
use Rattle.oxc_sourcemap_tokens.specs.declared.errors.fault.FaultSpot.{FaultSpot}
use Rattle.oxc_sourcemap_tokens.specs.declared.errors.fault.FaultSpot.TheVariants.{Segment, Member}
use Rattle.oxc_sourcemap_json.specs.ShapeSpots.{shape_spot, ignored_field}
use Rattle.oxc_sourcemap_json.specs.ValuePlaces.{ignored_spot, offset_place, or_place}
use Rattle.oxc_sourcemap_json.specs.ValuePlaces.{IsBytePlaceFrom}
use Rattle.oxc_sourcemap_tokens.specs.Places.{place_in}
use Rattle.oxc_sourcemap_found.specs.FoundMaps.{FoundRecord}
use Rattle.oxc_sourcemap_found.specs.Mended.{mended_members, with_version, as_found}
use Rattle.oxc_sourcemap_found.specs.MendedSections.{offset_from}
use Rattle.oxc_sourcemap_found.specs.Opening.{opened, counted_text}

-- where the mappings of a map, which may have any ids, have a fault
abbrev pub found_mappings_spot : JsonRecord → Option FaultSpot
found_mappings_spot j = option_map Segment (fault_place j.mappings 4294967295 4294967295)

-- where the fields of a map have a fault: in the ignore list, then in the mappings
abbrev pub found_fields_spot : Field → JsonRecord → Option FaultSpot
found_fields_spot field j = option_or (ignored_spot field j) (found_mappings_spot j)

abbrev pub found_spot_in : Data → Result JsonRecord Error → Option FaultSpot
found_spot_in d (Ok fields) = found_fields_spot (ignored_field d) fields
found_spot_in d (Err error) = Some (shape_spot d error)

-- where an object whose members are mended has its first fault
abbrev pub mended_spot : Members → Option FaultSpot
mended_spot ms = found_spot_in (object ms) (shape (object ms))

-- where the map of an object has the first fault that is not mended
abbrev pub plain_spot : Members → Option FaultSpot
plain_spot ms = mended_spot (mended_members ms).members

-- the members of a section's map, if that is an object and no indexed map
abbrev pub map_members : Data → Option Members
map_members d = option_and_then as_object (option_and_then as_plain (get (codes "map") d))

-- where that has the first fault that is not mended; if it is none, at the member
abbrev pub members_spot : Option Members → Option FaultSpot
members_spot None = Some (Member MapField)
members_spot (Some ms) = plain_spot ms

abbrev pub found_map_spot : Data → Option FaultSpot
found_map_spot d = members_spot (map_members d)

-- where the map of the section of this number has the first fault that is not mended
abbrev pub section_place : ℕ → Data → Option FaultPlace
section_place number d = option_map (place_in (Some number)) (found_map_spot d)

-- Where the first of these sections that is refused has its first fault: of each its offset, then its map. The first has this number
-- and is behind one at this offset.
abbrev pub found_sections_place : Option Position → ℕ → Items → Option FaultPlace
found_sections_place before number no_items = None
found_sections_place before number (item d ds) =
    or_place (offset_from before number d) (λ fault. Some (offset_place number d)) (λ place.
    option_or (section_place number d) (found_sections_place (Some place) (number + 1) ds))

-- where an indexed map whose version is mended has its first fault: in its version and its file, then in its list of sections, then
-- in these
abbrev pub found_indexed_place : Members → Option FaultPlace
found_indexed_place ms =
    or_place (file_of (object ms)) (λ fault. Some (place_in None (shape_spot (object ms) fault))) (λ file.
    or_place (sections_in (object ms)) (λ fault. Some (place_in None (Member SectionsField))) (found_sections_place None 0))

abbrev pub found_object_place : Members → Option FaultPlace
found_object_place ms =
    if is_indexed (object ms) then found_indexed_place (with_version (as_found ms)).members
    else option_map (place_in None) (plain_spot ms)

-- where a JSON value has the first fault that is not mended; if it is no object, at the value
abbrev pub found_members_place : Option Members → Option FaultPlace
found_members_place None = Some (place_in None (Member Object))
found_members_place (Some ms) = found_object_place ms

abbrev pub found_value_place : Data → Option FaultPlace
found_value_place d = found_members_place (as_object d)

-- A place at which what was opened is not JSON. It is counted in the text of a data URL, or else in the whole text, and then not in
-- what is passed over in front.
abbrev pub IsFoundReading : Text → FaultPlace → Type 0
IsFoundReading text place = IsBytePlaceFrom (length (counted_text text) - length (opened text).text) (counted_text text) place

-- where a text has the fault for which it is refused: a place at which what was opened is not JSON, or that of its value
abbrev pub IsFoundPlace : Text → Option FaultPlace → Type 0
IsFoundPlace text place = MatchOption (read (opened text).text) (IsSomeAnd place (IsFoundReading text)) (λ d. place ≡ found_value_place d)

-- A text that is read has no place. One that is refused has one, unless its error is `TooLarge`, as where a join passes a limit.
abbrev pub HasPlaceIfRefused : Result FoundRecord Error → Option FaultPlace → Type 0
HasPlaceIfRefused (Ok r) place = place ≡ None
HasPlaceIfRefused (Err fault) (Some place) = ⊤
HasPlaceIfRefused (Err fault) None = fault ≡ TooLarge

-- ---- the places that the reader gives

-- The place of the error of the call is this one, if it does not lack memory; it is none for `TooLarge` alone. Where the call succeeds,
-- there is no such place.
abbrev pub LocatesFault : {A : Type 0} → Result A Fault → Option FaultPlace → Type 0
LocatesFault result place =
    IfOk result (λ x. place ≡ None)
    × IfErr result (λ f. (f.error ≢ OutOfMemory) → (place ≡ f.place) × HasPlaceIfRefused (Err f.error) f.place)

-- A fault, unless it is want of memory, has the place of the fault of this text.
abbrev pub IsFoundFault : Text → Fault → Type 0
IsFoundFault text f = (f.error ≢ OutOfMemory) → IsFoundPlace text f.place × HasPlaceIfRefused (Err f.error) f.place

-- The place of the error of the call is that of the fault of this text; where the call succeeds, there is none.
abbrev pub LocatesFaultIn : {A : Type 0} → Text → Result A Fault → Type 0
LocatesFaultIn text result = IfOk result (λ x. IsFoundPlace text None) × IfErr result (IsFoundFault text)
