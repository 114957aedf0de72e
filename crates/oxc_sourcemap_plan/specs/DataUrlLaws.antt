-- The law of data URLs: what is written is read back.
use Rattle.std.specs.Prelude.{◌≡◌, Some, Ok}
use Rattle.std.specs.Str.{IsUtf8}
use Rattle.oxc_sourcemap_json.specs.JsonText.{data_url, map_text, map_url}
use Rattle.oxc_sourcemap_parts.specs.Record.{Text, MapRecord}
use Rattle.oxc_sourcemap_text.specs.DataUrls.{decoded_data_url}

-- the data URL of a text has that text
abbrev pub TextsReadBack : Type 0
TextsReadBack = (text : Text) → IsUtf8 text → decoded_data_url (data_url text) ≡ Ok (Some text)

-- the data URL of a map has the JSON text of that map
abbrev pub MapsReadBack : Type 0
MapsReadBack =
    (r : MapRecord) (text url : Text) → IsUtf8 text → map_text r ≡ Ok text → map_url r ≡ Ok url
    → decoded_data_url url ≡ Ok (Some text)
