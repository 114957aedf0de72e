-- What holds of every map that is read from a JSON text.
use Rattle.std.specs.Prelude.{◌≡◌, Ok}
use Rattle.oxc_sourcemap_tokens.specs.Token.{AreInBounds}
use Rattle.oxc_sourcemap_tokens.specs.LineOrder.{IsInLineOrder}
use Rattle.oxc_sourcemap_parts.specs.Record.{Text, MapRecord}
use Rattle.oxc_sourcemap_json.specs.ReadMap.{read_map}

-- The tokens of the map of a JSON text are in bounds.
abbrev pub ReadIsInBounds : Type 0
ReadIsInBounds = (text : Text) (r : MapRecord) → read_map text ≡ Ok r → AreInBounds r.tokens

-- The tokens of the map of a JSON text are in line order.
abbrev pub ReadIsInLineOrder : Type 0
ReadIsInLineOrder = (text : Text) (r : MapRecord) → read_map text ≡ Ok r → IsInLineOrder r.tokens
