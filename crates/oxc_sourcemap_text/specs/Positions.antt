-- Positions in a text, and offsets (docs/FORMAT.md, "Positions in a text"). A text is given by its bytes; offsets and columns count
-- UTF-16 units.
use Rattle.std.specs.Prelude.{ℕ, ◌+◌, ◌-◌, Bool, not, List, length, take, codes, slice_index}
use Rattle.std.specs.Prelude.{Result, Ok, Err, if◌then◌else◌, nat_le, nat_lt, ◌==◌}
use Rattle.std.specs.List.{sum_by, count_by, range_with_len}
use Rattle.std.specs.Char.Utf16.{is_low_surrogate}
use Rattle.oxc_sourcemap_tokens.specs.declared.errors.error.Error.{Error}
use Rattle.oxc_sourcemap_tokens.specs.declared.errors.error.Error.TheVariants.{TooLarge}
use Rattle.oxc_sourcemap_text.specs.declared.positions.position_error.PositionError.{PositionError}
use Rattle.oxc_sourcemap_text.specs.declared.positions.position_error.PositionError.TheVariants.{PastText}
use Rattle.oxc_sourcemap_text.specs.declared.positions.position_error.PositionError.TheVariants.{NoLine}
use Rattle.oxc_sourcemap_text.specs.declared.positions.position_error.PositionError.TheVariants.{PastLine}
use Rattle.oxc_sourcemap_text.specs.declared.positions.position_error.PositionError.TheVariants.{InsidePair}
use Rattle.oxc_sourcemap_text.specs.TextLines.{units_of, text_lines, line_at}

-- where a line begins: the number of units of the lines before it
abbrev pub line_start : List (List ℕ) → ℕ → ℕ
line_start lines n = sum_by length (take n lines)

-- The columns of a line: as many as its units. The last line has one more, the end of the text.
abbrev pub column_count : List (List ℕ) → ℕ → ℕ
column_count lines n = length (line_at lines n) + (if n + 1 == length lines then 1 else 0)

-- An offset is inside a surrogate pair: the unit there is the second half of one.
abbrev pub is_inside_pair : List ℕ → ℕ → Bool
is_inside_pair units offset = is_low_surrogate (slice_index units offset)

-- the offset of a line and a column: the units of the lines before it, and the column
unfoldable pub offset_of : List ℕ → ℕ → ℕ → Result ℕ PositionError
offset_of text line col =
    if not (nat_lt line (length (text_lines text))) then Err NoLine
    else if not (nat_lt col (column_count (text_lines text) line)) then Err PastLine
    else if is_inside_pair (units_of text) (line_start (text_lines text) line + col) then Err InsidePair
    else Ok (line_start (text_lines text) line + col)

-- the line of an offset: the last one that begins there or before it
abbrev pub line_of : List (List ℕ) → ℕ → ℕ
line_of lines offset = count_by (λ n. nat_le (line_start lines n) offset) (range_with_len 0 (length lines)) - 1

-- the line and the column of an offset
unfoldable pub position_of : List ℕ → ℕ → Result (ℕ × ℕ) PositionError
position_of text offset =
    if nat_lt (length (units_of text)) offset then Err PastText
    else if is_inside_pair (units_of text) offset then Err InsidePair
    else Ok (line_of (text_lines text) offset, offset - line_start (text_lines text) (line_of (text_lines text) offset))

-- a text whose offsets fit 32 bits
unfoldable pub in_size : List ℕ → Result (List ℕ) Error
in_size text = if nat_lt 4294967295 (length (units_of text)) then Err TooLarge else Ok text

-- the messages of the errors, as bytes
abbrev pub position_error_text : PositionError → List ℕ
position_error_text PastText = codes "The offset is past the end of the text"
position_error_text NoLine = codes "The text has no such line"
position_error_text PastLine = codes "The column is past the end of its line"
position_error_text InsidePair = codes "The position is inside a surrogate pair"
