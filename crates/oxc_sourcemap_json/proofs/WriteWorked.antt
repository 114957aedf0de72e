-- Worked examples of texts that are written, computed by the definitions themselves.
use Rattle.std.specs.Prelude.{◌≡◌, refl, true, [], ◌∷◌, ◌++◌, codes, Some}
use Rattle.base64.specs.Engines.{standard}
use Rattle.base64.specs.Rfc4648.{encode_symbols}
use Rattle.oxc_sourcemap_json.specs.JsonString.{json_string, escaped}
use Rattle.oxc_sourcemap_parts.specs.Views.{empty_record}
use Rattle.oxc_sourcemap_json.specs.Encoded.{record_with}
use Rattle.oxc_sourcemap_json.specs.JsonText.{json_list, field_text, optional_field, json_text}
use Rattle.oxc_sourcemap_json.specs.JsonText.{data_url}

writes-no_characters : json_string [] ≡ codes "\"\""
unfolding json_string
writes-no_characters = refl

writes-escapes : json_string (codes "a\"b\\c" ++ 9 ∷ 1 ∷ []) ≡ codes "\"a\\\"b\\\\c\\t\\u0001\""
unfolding json_string escaped
writes-escapes = refl

writes-control_characters : json_string (8 ∷ 10 ∷ 12 ∷ 13 ∷ 31 ∷ 127 ∷ []) ≡ codes "\"\\b\\n\\f\\r\\u001f" ++ 127 ∷ 34 ∷ []
unfolding json_string escaped
writes-control_characters = refl

-- é and 😀, by their bytes
writes-other_characters : json_string (195 ∷ 169 ∷ 240 ∷ 159 ∷ 152 ∷ 128 ∷ []) ≡ 34 ∷ 195 ∷ 169 ∷ 240 ∷ 159 ∷ 152 ∷ 128 ∷ 34 ∷ []
unfolding json_string escaped
writes-other_characters = refl

-- the engine of data URLs has the alphabet of RFC 4648, section 4, and pads with `=`
base64-alphabet : standard.encode_table ≡ codes "ABCDEFGHIJKLMNOPQRSTUVWXYZabcdefghijklmnopqrstuvwxyz0123456789+/"
base64-alphabet = refl

base64-padding : standard.padding.value ≡ 61
base64-padding = refl

base64-pads : standard.config.encode_padding ≡ true
base64-pads = refl

writes-nothing : json_text (record_with empty_record []) ≡ codes "{\"version\":3,\"names\":[],\"sources\":[],\"mappings\":\"\"}"
unfolding json_text json_list field_text optional_field json_string
writes-nothing = refl

writes-an_empty_ignore_list : json_text (record_with (record empty_record { ignore_list = Some [] }) [])
    ≡ codes "{\"version\":3,\"names\":[],\"sources\":[],\"ignoreList\":[],\"mappings\":\"\"}"
unfolding json_text json_list field_text optional_field json_string
writes-an_empty_ignore_list = refl

writes-a_source_with_empty_content : json_text (record_with (record empty_record { file = Some (codes "file"); names = codes "x" ∷ []; sources = codes "baz.js" ∷ []; source_contents = Some [] ∷ [] }) [])
    ≡ codes "{\"version\":3,\"file\":\"file\",\"names\":[\"x\"],\"sources\":[\"baz.js\"],\"sourcesContent\":[\"\"],\"mappings\":\"\"}"
unfolding json_text json_list field_text optional_field json_string escaped
writes-a_source_with_empty_content = refl

writes-the_url_of_nothing : data_url (codes "{\"version\":3,\"names\":[],\"sources\":[],\"mappings\":\"\"}")
    ≡ codes "data:application/json;charset=utf-8;base64,eyJ2ZXJzaW9uIjozLCJuYW1lcyI6W10sInNvdXJjZXMiOltdLCJtYXBwaW5ncyI6IiJ9"
unfolding encode_symbols
writes-the_url_of_nothing = refl
