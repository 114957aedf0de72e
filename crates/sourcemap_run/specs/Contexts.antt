-- The lines of a content around a position, as they are printed. A content is cut into lines where the library counts them (`lines_of`);
-- each is a list of characters, with its end.
use Rattle.std.specs.Prelude.{ℕ, ◌+◌, ◌-◌, Bool, ◌&&◌, ◌||◌, ◌==◌, nat_le, if◌then◌else◌, List, []}
use Rattle.std.specs.Prelude.{◌∷◌}
use Rattle.std.specs.Prelude.{◌++◌, codes, decimal, length, drop, chars, map, ◌≡◌}
use Rattle.std.specs.List.{filter, flat_map, range_with_len}
use Rattle.std.specs.Char.Escape.{encode_utf16}
use Rattle.oxc_sourcemap_tokens.specs.declared.position.Position.{Position}
use Rattle.oxc_sourcemap_parts.specs.Record.{Text}
use Rattle.oxc_sourcemap_text.specs.TextLines.{lines_of, line_at, text_lines}
use Rattle.sourcemap_texts.specs.Texts.{is_hidden, visible_char}

-- a character of the end of a line
abbrev pub is_line_end : ℕ → Bool
is_line_end c = c == 10 || c == 13 || c == 0x2028 || c == 0x2029

-- what is printed of a character of a line: nothing of the line's end, a tab as it is, and another hidden one escaped
abbrev pub line_char : ℕ → Text
line_char c = if is_line_end c then [] else (if c == 9 then c ∷ [] else visible_char c)

-- what is printed of a line
abbrev pub line_text : List ℕ → Text
line_text line = flat_map line_char line

-- what stands below a character, as wide as what is printed of it: a tab, or spaces
abbrev pub blank_char : ℕ → Text
blank_char c = if is_line_end c then [] else (if c == 9 then c ∷ [] else (if is_hidden c then codes "      " else codes " "))

-- the characters of a line that begin before a column, in UTF-16 units
abbrev pub before_column : ℕ → List ℕ → List ℕ
before_column column [] = []
before_column column (c ∷ cs) = if column == 0 then [] else c ∷ before_column (column - length (encode_utf16 c)) cs

-- a number, with spaces before it if it has less than five digits
abbrev pub aligned : ℕ → Text
aligned n = drop (length (decimal n)) (codes "     ") ++ decimal n

-- a line behind a sign and its number
abbrev pub numbered_line : Text → ℕ → List ℕ → Text
numbered_line sign n line = sign ++ (aligned n ++ (codes " | " ++ (line_text line ++ codes "\n")))

-- a space below each character of a number and of the spaces before it
abbrev pub below_number : ℕ → Text
below_number n = flat_map (λ byte. codes " ") (aligned n)

-- the mark below a column of a line with this number
abbrev pub mark_line : ℕ → ℕ → List ℕ → Text
mark_line n column line =
    codes "  " ++ (below_number n ++ (codes " | " ++ (flat_map blank_char (before_column column line) ++ codes "^\n")))

-- what is printed of a line: if it is the position's, with a sign and the mark below it. Numbers count from `base`.
abbrev pub context_line : ℕ → Position → ℕ → List ℕ → Text
context_line base p n line =
    if n == p.line then numbered_line (codes "> ") (n + base) line ++ mark_line (n + base) p.column line else numbered_line (codes "  ") (n + base) line

-- a line is at most so far from another one
abbrev pub is_near : ℕ → ℕ → ℕ → Bool
is_near around line n = nat_le line (n + around) && nat_le n (line + around)

-- the numbers of the lines that are near, of so many lines
abbrev pub near_lines : ℕ → ℕ → ℕ → List ℕ
near_lines around line count = filter (is_near around line) (range_with_len 0 count)

-- the lines of these that are near a position
abbrev pub lines_around : ℕ → ℕ → Position → List (List ℕ) → Text
lines_around around base p lines = flat_map (λ n. context_line base p n (line_at lines n)) (near_lines around p.line (length lines))

-- the lines of a content around a position
abbrev pub context_text : ℕ → ℕ → Position → Text → Text
context_text around base p content = lines_around around base p (lines_of (chars content))

-- The lines of a text's characters are, in UTF-16 units, the lines that positions count.
abbrev pub LinesAreCounted : Type 0
LinesAreCounted = (text : Text) → map (flat_map encode_utf16) (lines_of (chars text)) ≡ text_lines text
