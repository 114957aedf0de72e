-- What is left of a plain JSON text, as tokens.
use Rattle.std.specs.Prelude.{ℕ, ◌≡◌, ◌⊎◌, List, Bool, not, ◌||◌, ◌==◌, nat_lt, if◌then◌else◌, drop}
use Rattle.std.specs.Prelude.{⊤, Some}
use Rattle.json.specs.Token.{Token}
use Rattle.json.specs.Lex as spec
use Rattle.json.specs.Text.{content, plain}
use Rattle.json.specs.Lex.{between, in_string, lex, punctuate}
use Rattle.oxc_sourcemap_json.specs.declared.object.plain.Place.{Place}
use Rattle.oxc_sourcemap_json.specs.declared.object.plain.Place.TheVariants.{Fresh, AfterValue}
use Rattle.oxc_sourcemap_json.specs.declared.object.plain.Place.TheVariants.{AfterComma}
use Rattle.oxc_sourcemap_json.specs.declared.object.plain.PlainReader.{PlainReader}

abbrev pub place_of : Place → spec.Place
place_of Fresh = spec.fresh
place_of AfterValue = spec.after_value
place_of AfterComma = spec.after_comma

-- the tokens of a text from an index on
abbrev pub tokens_at : List ℕ → ℕ → Place → List Token
tokens_at text at place = punctuate (place_of place) (lex between (drop at text))

abbrev pub tokens_left : PlainReader → List Token
tokens_left r = tokens_at r.text.now r.at r.place

-- the token of a bracket that opens
abbrev pub opening : ℕ → Token
opening bracket = if bracket == 123 then Token.begin_object else Token.begin_array

-- a byte at which the plain text of a string stops: its quote, the backslash of an escape, or a control character
abbrev pub is_stop : ℕ → Bool
is_stop b = (b == 34) || ((b == 92) || nat_lt b 32)

abbrev pub is_plain : ℕ → Bool
is_plain b = not (is_stop b)

-- A value or a key may come next, and a bracket that closes.
abbrev pub MayBegin : Place → Type 0
MayBegin Fresh = ⊤
MayBegin AfterValue = ⊥
MayBegin AfterComma = ⊤

abbrev pub MayClose : Place → Type 0
MayClose Fresh = ⊤
MayClose AfterValue = ⊤
MayClose AfterComma = ⊥

-- Behind a value this byte ends it.
abbrev pub EndsValue : ℕ → Type 0
EndsValue byte = (byte ≡ 44) ⊎ ((byte ≡ 93) ⊎ (byte ≡ 125))

-- The content of a string that begins at `from`, and where the text goes on behind its quote.
abbrev pub IsRead : List ℕ → ℕ → List ℕ → ℕ → Type 0
IsRead d from s end = (content plain (drop from d) ≡ Some s) × (lex in_string (drop from d) ≡ lex between (drop end d))
