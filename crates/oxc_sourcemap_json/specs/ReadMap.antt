-- The map of a JSON value or a JSON text, or its first fault.
use Rattle.std.specs.Prelude.{codes, Option, Some, None, Result, Ok, Err, if◌then◌else◌}
use Rattle.std.specs.Option.{option_and_then}
use Rattle.serde_json.specs.Data.{Data, Items}
use Rattle.serde_json.specs.Find.{get, as_array}
use Rattle.serde_json.specs.Read.{read}
use Rattle.oxc_sourcemap_tokens.specs.declared.errors.error.Error.{Error}
use Rattle.oxc_sourcemap_tokens.specs.declared.errors.error.Error.TheVariants.{BadJson}
use Rattle.oxc_sourcemap_tokens.specs.declared.errors.error.JsonFault.TheVariants.{Reading}
use Rattle.oxc_sourcemap_tokens.specs.declared.errors.error.Field.TheVariants.{Sections as SectionsField}
use Rattle.oxc_sourcemap_parts.specs.Record.{Text, MapRecord}
use Rattle.oxc_sourcemap_parts.specs.DecodedMap.{DecodedMap, decoded_map_of}
use Rattle.oxc_sourcemap_json.specs.Shape.{◌>>=◌, or_misshapen, shape, file_of}
use Rattle.oxc_sourcemap_json.specs.Decoded.{decoded}
use Rattle.oxc_sourcemap_json.specs.Section.{is_indexed}
use Rattle.oxc_sourcemap_json.specs.Sections.{Sections, all_sections, joined_sections}

-- How a JSON value is read: as a map or a fault; or, if it is an indexed map with a list of sections, as a file and sections.
pub data ReadForm : Type 0 where
  plain : Result MapRecord Error → ReadForm
  indexed : Option Text → Sections → ReadForm

-- the list of sections of a value
abbrev pub sections_in : Data → Result Items Error
sections_in d = or_misshapen SectionsField (option_and_then as_array (get (codes "sections") d))

-- a file and a list of sections, or the first fault of these
abbrev pub indexed_form : Result (Option Text) Error → Result Items Error → ReadForm
indexed_form (Err fault) items = plain (Err fault)
indexed_form (Ok file) (Err fault) = plain (Err fault)
indexed_form (Ok file) (Ok items) = indexed file (all_sections items)

-- a JSON value, as it is read
abbrev pub form_of_value : Data → ReadForm
form_of_value d = if is_indexed d then indexed_form (file_of d) (sections_in d) else plain (shape d >>= decoded)

-- the join of sections as a map with this file, without chunks
abbrev pub indexed_record : Option Text → MapRecord → MapRecord
indexed_record file r = record r { file = file; token_chunks = None }

-- the map of a value, as it was read, or its first fault
abbrev pub map_of_form : ReadForm → Result MapRecord Error
map_of_form (plain answer) = answer
map_of_form (indexed file found) = joined_sections found >>= (λ r. Ok (indexed_record file r))

-- The map of a JSON value, or its first fault.
unfoldable pub read_value : Data → Result MapRecord Error
read_value d = map_of_form (form_of_value d)

-- the value of a JSON text, as it is read; none if the text is not JSON
abbrev pub form_of_json : Option Data → ReadForm
form_of_json None = plain (Err (BadJson Reading))
form_of_json (Some d) = form_of_value d

-- a JSON text, as it is read
abbrev pub form_of_text : Text → ReadForm
form_of_text text = form_of_json (read text)

-- The map of a JSON text, or its first fault: the text is not JSON, the value has not the shape of a source map, or a field has
-- a fault.
unfoldable pub read_map : Text → Result MapRecord Error
read_map text = map_of_form (form_of_text text)

-- the decoded map of a JSON text, or its first fault
abbrev pub read_decoded_map : Text → Result DecodedMap Error
read_decoded_map text = read_map text >>= (λ r. Ok (decoded_map_of r))
