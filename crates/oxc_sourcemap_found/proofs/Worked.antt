-- Worked examples of maps as they are found, computed by the definitions themselves.
use Rattle.std.specs.Prelude.{◌≡◌, refl, [], ◌∷◌, codes, List, ℕ, true, false, Some, None}
use Rattle.serde_json.specs.Data.{Data, null, number, unsigned, array, object, member, no_members}
use Rattle.serde_json.specs.Data.{item, no_items}
use Rattle.oxc_sourcemap_tokens.specs.declared.errors.error.Field.TheVariants.{Object, Version}
use Rattle.oxc_sourcemap_tokens.specs.declared.errors.error.Field.TheVariants.{Sections, Map}
use Rattle.oxc_sourcemap_tokens.specs.declared.errors.error.Field.TheVariants.{Offset}
use Rattle.oxc_sourcemap_tokens.specs.declared.errors.fault.FaultSpot.TheVariants.{Member, Entry}
use Rattle.oxc_sourcemap_tokens.specs.declared.errors.fault.FaultSpot.TheVariants.{Reading}
use Rattle.oxc_sourcemap_text.specs.DataUrls.{decoded_data_url}
use Rattle.std.proofs.Common.{arith, ◌≤◌}
use Rattle.oxc_sourcemap_tokens.specs.declared.position.Position.{Position}
use Rattle.oxc_sourcemap_tokens.specs.Token.{TokenRecord}
use Rattle.oxc_sourcemap_parts.specs.Record.{Text, MapRecord}
use Rattle.oxc_sourcemap_parts.specs.Views.{empty_record}
use Rattle.oxc_sourcemap_join.specs.Joined.{position}
use Rattle.oxc_sourcemap_found.specs.declared.mending.mend.MendKind.{MendKind}
use Rattle.oxc_sourcemap_found.specs.declared.mending.mend.MendKind.TheVariants.{ByteOrderMark}
use Rattle.oxc_sourcemap_found.specs.declared.mending.mend.MendKind.TheVariants.{JsonPrefix}
use Rattle.oxc_sourcemap_found.specs.declared.mending.mend.MendKind.TheVariants.{NullNames}
use Rattle.oxc_sourcemap_found.specs.declared.mending.mend.MendKind.TheVariants.{Unsorted, Cut}
use Rattle.oxc_sourcemap_found.specs.MendedSections.{MendedSection, is_behind, cut_map}
use Rattle.oxc_sourcemap_found.specs.MendedSections.{section_mends}
use Rattle.oxc_sourcemap_found.specs.FoundMaps.{found_record, in_order}
use Rattle.oxc_sourcemap_found.specs.FoundPlaces.{found_value_place, found_sections_place}
use Rattle.oxc_sourcemap_found.specs.FoundPlaces.{IsFoundReading}
use Rattle.oxc_sourcemap_found.specs.Opening.{Opened, opened, counted_text}

abbrev opened_as : Text → List MendKind → Opened
opened_as text kinds = record { text = text; kinds = kinds }

opens-behind_a_mark_and_a_line : opened (239 ∷ 187 ∷ 191 ∷ codes ")]}', x\r\n{}\n") ≡ opened_as (codes "{}\n") (ByteOrderMark ∷ JsonPrefix ∷ [])
unfolding opened decoded_data_url
opens-behind_a_mark_and_a_line = refl

opens-nothing_behind_a_line_without_end : opened (codes ")]}'{}") ≡ opened_as [] (JsonPrefix ∷ [])
unfolding opened decoded_data_url
opens-nothing_behind_a_line_without_end = refl

opens-one_mark : opened (239 ∷ 187 ∷ 191 ∷ 239 ∷ 187 ∷ 191 ∷ []) ≡ opened_as (239 ∷ 187 ∷ 191 ∷ []) (ByteOrderMark ∷ [])
unfolding opened decoded_data_url
opens-one_mark = refl

opens-no_other_url : opened (codes "data:text/plain,{}") ≡ opened_as (codes "data:text/plain,{}") []
unfolding opened decoded_data_url
opens-no_other_url = refl

-- ---- where places are counted

counts-in_the_whole_text : counted_text (codes ")]}'\n<") ≡ codes ")]}'\n<"
unfolding counted_text decoded_data_url
counts-in_the_whole_text = refl

places-behind_a_line : IsFoundReading (codes ")]}'\n<") (record { text = None; section = None; spot = Reading 1 0 5 })
unfolding counted_text opened decoded_data_url
places-behind_a_line = (refl, refl, (omega arith, (omega arith, refl, refl)))

-- ---- sections

abbrev token : ℕ → ℕ → TokenRecord
token line column = record { dst_line = line; dst_col = column; src_line = 0; src_col = 0; source_id = None; name_id = None }

abbrev section : List TokenRecord → List MendKind → Position → MendedSection
section tokens kinds place = (record { map = record empty_record { tokens = tokens }; kinds = kinds }, place)

cuts-a_token_behind : is_behind (position 0 4) (position 0 0) (token 0 5) ≡ true
cuts-a_token_behind = refl

keeps-a_token_where_the_next_begins : is_behind (position 0 4) (position 0 0) (token 0 4) ≡ false
keeps-a_token_where_the_next_begins = refl

cuts-a_moved_token : is_behind (position 2 6) (position 2 5) (token 0 2) ≡ true
cuts-a_moved_token = refl

keeps-a_token_on_a_line_of_its_own : is_behind (position 3 0) (position 2 5) (token 1 0) ≡ false
keeps-a_token_on_a_line_of_its_own = refl

abbrev with_tokens : List TokenRecord → MapRecord
with_tokens tokens = record empty_record { tokens = tokens }

cuts-what_reaches_in : cut_map (Some (position 0 2)) (position 0 0) (with_tokens (token 0 4 ∷ token 0 1 ∷ token 0 0 ∷ token 0 3 ∷ [])) ≡ with_tokens (token 0 1 ∷ token 0 0 ∷ [])
cuts-what_reaches_in = refl

-- the exact reader looks at the last token alone, as this one
keeps-what_does_not_reach_in : cut_map (Some (position 0 5)) (position 0 0) (with_tokens (token 0 10 ∷ token 0 2 ∷ [])) ≡ with_tokens (token 0 10 ∷ token 0 2 ∷ [])
keeps-what_does_not_reach_in = refl

tells-by_section : section_mends 0 (section (token 0 0 ∷ token 0 5 ∷ []) [] (position 0 0) ∷ section (token 0 9 ∷ []) (NullNames ∷ []) (position 0 4) ∷ [])
    ≡ record { section = Some 0; kind = Cut 1 } ∷ record { section = Some 1; kind = NullNames } ∷ []
tells-by_section = refl

sorts-the_whole_map : in_order (found_record (record { section = Some 0; kind = NullNames } ∷ []) (with_tokens (token 0 10 ∷ token 0 2 ∷ token 0 5 ∷ [])))
    ≡ found_record (record { section = Some 0; kind = NullNames } ∷ record { section = None; kind = Unsorted } ∷ []) (with_tokens (token 0 2 ∷ token 0 5 ∷ token 0 10 ∷ []))
sorts-the_whole_map = refl

-- ---- places of faults

-- the number 0, and an object with only an offset, that of line 0 and column 0
abbrev zero_number : Data
zero_number = number (unsigned 0)

abbrev offset_alone : Data
offset_alone = object (member (codes "offset") (object (member (codes "column") zero_number (member (codes "line") zero_number no_members))) no_members)

places-no_object : found_value_place null ≡ Some (record { text = None; section = None; spot = Member Object })
places-no_object = refl

places-version : found_value_place (object (member (codes "sections") (array no_items) no_members)) ≡ Some (record { text = None; section = None; spot = Member Version })
places-version = refl

places-no_section : found_sections_place None 0 (item null no_items) ≡ Some (record { text = None; section = None; spot = Entry Sections 0 })
places-no_section = refl

places-no_offset : found_sections_place None 0 (item (object no_members) no_items) ≡ Some (record { text = None; section = Some 0; spot = Member Offset })
places-no_offset = refl

places-no_map : found_sections_place None 0 (item offset_alone no_items) ≡ Some (record { text = None; section = Some 0; spot = Member Map })
places-no_map = refl

places-nothing : found_sections_place None 0 no_items ≡ None
places-nothing = refl
