-- The link to the visualization page (docs/FORMAT.md, "The link").
use Rattle.std.specs.Prelude.{◌∷◌, ◌++◌, codes, decimal, length, Result, Ok}
use Rattle.base64.specs.Engines.{standard}
use Rattle.base64.specs.GeneralPurpose.{encode_of}
use Rattle.oxc_sourcemap_tokens.specs.declared.errors.error.Error.{Error}
use Rattle.oxc_sourcemap_json.specs.Shape.{◌>>=◌}
use Rattle.oxc_sourcemap_parts.specs.Record.{Text, MapRecord}
use Rattle.oxc_sourcemap_json.specs.JsonText.{map_text}

-- a text after its number of bytes in decimal and a zero byte
abbrev pub counted : Text → Text
counted text = decimal (length text) ++ 0 ∷ text

-- the link of a code and a JSON text
abbrev pub visualization_link : Text → Text → Text
visualization_link code json =
    codes "https://evanw.github.io/source-map-visualization/#" ++ encode_of standard (counted code ++ counted json)

-- the link of a code and a map, or the fault of the map's tokens and chunks
unfoldable pub map_link : Text → MapRecord → Result Text Error
map_link code r = map_text r >>= (λ json. Ok (visualization_link code json))
