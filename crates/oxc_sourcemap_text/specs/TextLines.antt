-- The lines of a text, in UTF-16 units (docs/FORMAT.md, "Positions in a text"). A text is given by its bytes.
use Rattle.std.specs.Prelude.{ℕ, Bool, false, not, ◌&&◌, ◌||◌, List, [], ◌∷◌, flat_map, slice_get}
use Rattle.std.specs.Prelude.{if◌then◌else◌, ◌==◌}
use Rattle.std.specs.Option.{unwrap_or}
use Rattle.std.specs.Str.{chars}
use Rattle.std.specs.Char.Escape.{encode_utf16}

-- the UTF-16 units of a text, in which columns are counted
abbrev pub units_of : List ℕ → List ℕ
units_of text = flat_map encode_utf16 (chars text)

-- these units begin with a line feed
abbrev pub begins_with_line_feed : List ℕ → Bool
begins_with_line_feed [] = false
begins_with_line_feed (unit ∷ units) = unit == 10

-- A line ends after a line feed, U+2028 and U+2029, and after a carriage return that no line feed follows.
abbrev pub ends_line : ℕ → List ℕ → Bool
ends_line unit after = unit == 10 || unit == 0x2028 || unit == 0x2029 || (unit == 13 && not (begins_with_line_feed after))

-- these lines, with a unit put before the first line
abbrev pub onto_first : ℕ → List (List ℕ) → List (List ℕ)
onto_first unit [] = (unit ∷ []) ∷ []
onto_first unit (line ∷ lines) = (unit ∷ line) ∷ lines

-- the lines of these units, cut after each line end; what follows the last cut is one more line, which may be empty
unfoldable pub lines_of : List ℕ → List (List ℕ)
lines_of [] = [] ∷ []
lines_of (unit ∷ after) = if ends_line unit after then (unit ∷ []) ∷ lines_of after else onto_first unit (lines_of after)

-- the lines of a text
abbrev pub text_lines : List ℕ → List (List ℕ)
text_lines text = lines_of (units_of text)

-- the line of this number, from 0; one that is not there is empty
abbrev pub line_at : List (List ℕ) → ℕ → List ℕ
line_at lines n = unwrap_or (slice_get lines n) []
