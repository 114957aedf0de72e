-- How texts are shown.
use Rattle.std.specs.Prelude.{◌≡◌, ℕ, ◌/◌, ◌%◌, List, ◌++◌, ◌∷◌, [], codes, Bool, not, ◌&&◌, ◌||◌}
use Rattle.std.specs.Prelude.{◌==◌, nat_le, if◌then◌else◌, chars, encode_utf8, IsUtf8}
use Rattle.std.specs.Char.{digit_char}
use Rattle.std.specs.List.{list_all, flat_map}
use Rattle.oxc_sourcemap_parts.specs.Record.{Text}
use Rattle.oxc_sourcemap_json.specs.JsonString.{json_string}

abbrev pub is_between : ℕ → ℕ → ℕ → Bool
is_between low high c = nat_le low c && nat_le c high

-- Whether a character is a control character (C0, DEL and C1), or a mark of the direction of text.
abbrev pub is_hidden : ℕ → Bool
is_hidden c =
    nat_le c 31 || is_between 0x7f 0x9f c || c == 0x61c || is_between 0x200e 0x200f c || is_between 0x202a 0x202e c
    || is_between 0x2066 0x2069 c

-- `\u` and the four lower-case hexadecimal digits of a character below U+10000
abbrev pub unicode_escape : ℕ → List ℕ
unicode_escape c =
    codes "\\u" ++ digit_char (c / 4096 % 16) ∷ digit_char (c / 256 % 16) ∷ digit_char (c / 16 % 16) ∷ digit_char (c % 16) ∷ []

-- what is printed of a character: its UTF-8, or its escape if it is hidden
abbrev pub visible_char : ℕ → Text
visible_char c = if is_hidden c then unicode_escape c else encode_utf8 c

-- a text whose hidden characters are escaped
abbrev pub visible : Text → Text
visible text = flat_map visible_char (chars text)

-- a text as a JSON string in which hidden characters are escaped, also those that JSON allows
abbrev pub visible_string : Text → Text
visible_string text = visible (json_string text)

-- Strings are told apart: equal texts that begin with the strings of two texts begin with the string of one text, and go on alike.
abbrev pub VisibleStringsToldApart : Type 0
VisibleStringsToldApart =
    (p q r s : Text) → IsUtf8 p → IsUtf8 q → visible_string p ++ r ≡ visible_string q ++ s → (p ≡ q) × (r ≡ s)

-- Whether a character of a path or a name may be printed as it is: it is not hidden, and no quote.
abbrev pub is_plain : ℕ → Bool
is_plain c = not (is_hidden c) && not (c == 34)

-- a path or a name: as it is, or as a JSON string if one of its characters is not plain
abbrev pub shown : Text → Text
shown text = if list_all is_plain (chars text) then text else visible_string text
