-- Worked examples of places of faults, computed by the definitions themselves.
use Rattle.std.specs.Prelude.{◌≡◌, refl, [], codes, Some, None, ◌≤◌}
use Rattle.std.proofs.Common.{arith}
use Rattle.std.specs.Fmt.{digits}
use Rattle.serde_json.specs.Data.{Data, null, number, array, object, unsigned, no_items, item}
use Rattle.serde_json.specs.Data.{no_members, member}
use Rattle.oxc_sourcemap_tokens.specs.declared.errors.error.Field.TheVariants.{Sources, Object}
use Rattle.oxc_sourcemap_tokens.specs.declared.errors.error.Field.TheVariants.{Sections, Version}
use Rattle.oxc_sourcemap_tokens.specs.declared.errors.error.Field.TheVariants.{Offset, Map}
use Rattle.oxc_sourcemap_tokens.specs.declared.errors.fault.FaultSpot.TheVariants.{Segment, Reading}
use Rattle.oxc_sourcemap_tokens.specs.declared.errors.fault.FaultSpot.TheVariants.{Member, Entry}
use Rattle.oxc_sourcemap_tokens.specs.PlaceMessages.{place_text}
use Rattle.oxc_sourcemap_json.specs.TextBytes.{line_start, IsByteAt}
use Rattle.oxc_sourcemap_json.specs.ValuePlaces.{sections_place, indexed_place}

tells-text : place_text (record { text = Some 700; section = None; spot = Segment (record { byte = 12; line = 0; segment = 3 }) })
    ≡ codes "text 700, line 0, segment 3 (byte 12)"
unfolding digits
tells-text = refl

tells-section : place_text (record { text = None; section = Some 2; spot = Entry Sources 4 }) ≡ codes "section 2, entry 4 of sources"
unfolding digits
tells-section = refl

tells-value : place_text (record { text = Some 1; section = Some 0; spot = Member Object }) ≡ codes "text 1, section 0, the value"
unfolding digits
tells-value = refl

tells-reading : place_text (record { text = None; section = None; spot = Reading 4 0 99 }) ≡ codes "line 4, column 0 (byte 99)"
unfolding digits
tells-reading = refl

-- ---- bytes of a text

begins-line : line_start (codes "ab\nc\n") 1 ≡ 3
begins-line = refl

begins-last_line : line_start (codes "ab\nc\n") 2 ≡ 5
begins-last_line = refl

finds-byte : IsByteAt (codes "ab\ncd\n") 1 1 4
finds-byte = (omega arith, refl, refl)

-- a line feed is on the line that it ends
finds-line_feed : IsByteAt (codes "ab\nc\n") 0 2 2
finds-line_feed = (omega arith, refl, refl)

finds-end : IsByteAt (codes "ab\nc\n") 2 0 5
finds-end = (omega arith, refl, refl)

-- ---- sections

-- the number 0, and an object with only an offset, that of line 0 and column 0
abbrev zero_number : Data
zero_number = number (unsigned 0)

abbrev offset_alone : Data
offset_alone = object (member (codes "offset") (object (member (codes "column") zero_number (member (codes "line") zero_number no_members))) no_members)

places-no_object : sections_place [] (item null no_items) ≡ Some (record { text = None; section = None; spot = Entry Sections 0 })
places-no_object = refl

places-no_offset : sections_place [] (item (object no_members) no_items) ≡ Some (record { text = None; section = Some 0; spot = Member Offset })
places-no_offset = refl

places-no_map : sections_place [] (item offset_alone no_items) ≡ Some (record { text = None; section = Some 0; spot = Member Map })
places-no_map = refl

places-version : indexed_place (object (member (codes "sections") (array no_items) no_members)) ≡ Some (record { text = None; section = None; spot = Member Version })
places-version = refl

places-nothing : sections_place [] no_items ≡ None
places-nothing = refl
