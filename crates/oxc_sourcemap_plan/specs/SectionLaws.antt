-- What an indexed map that is read means.
use Rattle.std.specs.Prelude.{◌≡◌, Option, Ok}
use Rattle.serde_json.specs.Data.{Data}
use Rattle.oxc_sourcemap_parts.specs.Record.{Text, MapRecord}
use Rattle.oxc_sourcemap_parts.specs.DecodedMap.{DecodedMap, decoded_map_of}
use Rattle.oxc_sourcemap_json.specs.Sections.{Sections}
use Rattle.oxc_sourcemap_json.specs.ReadMap.{indexed, form_of_value, form_of_text, read_value}
use Rattle.oxc_sourcemap_json.specs.ReadMap.{read_map}
use Rattle.oxc_sourcemap_plan.specs.Repeats.{EqualUpToRepeats}
use Rattle.oxc_sourcemap_plan.specs.JoinedDecodedMaps.{joined_decoded_maps}
use Rattle.oxc_sourcemap_plan.specs.JoinLaws.{decoded_maps_of}

-- the join of the decoded maps of sections, each at its offset, with this file
abbrev pub decoded_map_of_sections : Option Text → Sections → DecodedMap
decoded_map_of_sections file found = record (joined_decoded_maps (decoded_maps_of found.maps)) { file = file }

-- The decoded map of an indexed map that is read from a value is equal up to repeats to that of its sections.
abbrev pub ValueOfSections : Type 0
ValueOfSections = (d : Data) (file : Option Text) (found : Sections) (r : MapRecord) → form_of_value d ≡ indexed file found → read_value d ≡ Ok r
    → EqualUpToRepeats (decoded_map_of r) (decoded_map_of_sections file found)

-- The decoded map of an indexed map that is read from a text is equal up to repeats to that of its sections.
abbrev pub TextOfSections : Type 0
TextOfSections = (text : Text) (file : Option Text) (found : Sections) (r : MapRecord) → form_of_text text ≡ indexed file found → read_map text ≡ Ok r
    → EqualUpToRepeats (decoded_map_of r) (decoded_map_of_sections file found)
