-- A text as a JSON string (RFC 8259, section 7).
use Rattle.std.specs.Prelude.{ℕ, Bool, ◌/◌, ◌%◌, List, [], ◌∷◌, ◌++◌, codes, flat_map}
use Rattle.std.specs.Prelude.{if◌then◌else◌, nat_lt, ◌==◌}
use Rattle.std.specs.Char.{digit_char}

-- `\u00` and the two lower-case hexadecimal digits of a byte
abbrev pub hex_escape : ℕ → List ℕ
hex_escape b = codes "\\u00" ++ digit_char (b / 16) ∷ digit_char (b % 16) ∷ []

-- A byte as a JSON string has it: `\"`, `\\`, `\b`, `\t`, `\n`, `\f` and `\r` for the bytes that have an escape of
-- their own, `\u00` and two digits for every other byte below 32, and every byte above as itself.
unfoldable pub escaped : ℕ → List ℕ
escaped b =
    if b == 34 then codes "\\\""
    else if b == 92 then codes "\\\\"
    else if b == 8 then codes "\\b"
    else if b == 9 then codes "\\t"
    else if b == 10 then codes "\\n"
    else if b == 12 then codes "\\f"
    else if b == 13 then codes "\\r"
    else if nat_lt b 32 then hex_escape b
    else b ∷ []

-- the bytes of a text, escaped, in quotes
unfoldable pub json_string : List ℕ → List ℕ
json_string text = 34 ∷ flat_map escaped text ++ 34 ∷ []

-- The rest of this module is for the steps of the writer; no public contract cites it.

-- the comma before a string of a list
abbrev pub comma_text : Bool → List ℕ
comma_text is_first = if is_first then [] else codes ","

-- a text as a string of a list, with its comma
abbrev pub item_text : Bool → List ℕ → List ℕ
item_text is_first text = comma_text is_first ++ json_string text
