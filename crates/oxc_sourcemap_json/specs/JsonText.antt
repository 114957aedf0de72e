-- The JSON text of a source map, and its data URL (RFC 8259 and RFC 2397; docs/FORMAT.md, "The JSON text").
use Rattle.std.specs.Prelude.{List, [], ◌++◌, codes, decimal, Option, Some, None, Result, Ok}
use Rattle.std.specs.List.{join_by}
use Rattle.std.specs.Option.{option_map_or}
use Rattle.base64.specs.Engines.{standard}
use Rattle.base64.specs.GeneralPurpose.{encode_of}
use Rattle.oxc_sourcemap_tokens.specs.declared.errors.error.Error.{Error}
use Rattle.oxc_sourcemap_json.specs.JsonRecord.{JsonRecord}
use Rattle.oxc_sourcemap_json.specs.JsonString.{json_string}
use Rattle.oxc_sourcemap_json.specs.Shape.{◌>>=◌}
use Rattle.oxc_sourcemap_parts.specs.Record.{Text, MapRecord}
use Rattle.oxc_sourcemap_json.specs.Encoded.{encoded}

-- a list in brackets, its items separated by commas
unfoldable pub json_list : {A : Type 0} → (A → Text) → List A → Text
json_list write items = codes "[" ++ (join_by write (codes ",") items ++ codes "]")

-- a content: a string, or `null` if it is not known
abbrev pub content_text : Option Text → Text
content_text None = codes "null"
content_text (Some content) = json_string content

-- a further field: a comma, the key, and the text of the value
unfoldable pub field_text : Text → Text → Text
field_text key value = codes ",\"" ++ (key ++ (codes "\":" ++ value))

-- a field that is there exactly if there is a value
unfoldable pub optional_field : {A : Type 0} → Text → (A → Text) → Option A → Text
optional_field key write value = option_map_or (λ x. field_text key (write x)) value []

-- The JSON text of these fields, for version 3: without spaces, and in this order.
unfoldable pub json_text : JsonRecord → Text
json_text j =
    codes "{\"version\":3"
    ++ (optional_field (codes "file") json_string j.file
    ++ (optional_field (codes "sourceRoot") json_string j.source_root
    ++ (field_text (codes "names") (json_list json_string j.names)
    ++ (field_text (codes "sources") (json_list json_string j.sources)
    ++ (optional_field (codes "sourcesContent") (json_list content_text) j.sources_content
    ++ (optional_field (codes "ignoreList") (json_list decimal) j.ignore_list
    ++ (field_text (codes "mappings") (json_string j.mappings)
    ++ (optional_field (codes "debugId") json_string j.debug_id
    ++ codes "}"))))))))

-- the JSON text of a map, or the fault of its tokens and chunks
unfoldable pub map_text : MapRecord → Result Text Error
map_text r = encoded r >>= (λ j. Ok (json_text j))

-- a text behind another one, or the fault of the text
abbrev pub appended : Text → Result Text Error → Result Text Error
appended old text = text >>= (λ more. Ok (old ++ more))

-- a JSON text as a data URL
abbrev pub data_url : Text → Text
data_url text = codes "data:application/json;charset=utf-8;base64," ++ encode_of standard text

-- the data URL of a map, or the fault of its tokens and chunks
unfoldable pub map_url : MapRecord → Result Text Error
map_url r = map_text r >>= (λ text. Ok (data_url text))
