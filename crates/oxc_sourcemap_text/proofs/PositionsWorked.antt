-- Worked examples of positions in texts, computed by the definitions themselves.
use Rattle.std.specs.Prelude.{◌≡◌, refl, ℕ, List, [], ◌∷◌, codes, Ok, Err}
use lib.Utf8.{encode}
use Rattle.std.specs.Str.{chars}
use Rattle.oxc_sourcemap_text.specs.declared.positions.position_error.PositionError.TheVariants.{PastText}
use Rattle.oxc_sourcemap_text.specs.declared.positions.position_error.PositionError.TheVariants.{NoLine}
use Rattle.oxc_sourcemap_text.specs.declared.positions.position_error.PositionError.TheVariants.{PastLine}
use Rattle.oxc_sourcemap_text.specs.declared.positions.position_error.PositionError.TheVariants.{InsidePair}
use Rattle.oxc_sourcemap_text.specs.TextLines.{lines_of}
use Rattle.oxc_sourcemap_text.specs.Positions.{offset_of, position_of}

-- a line that ends in a carriage return and a line feed, and one of two letters
abbrev two_lines : List ℕ
two_lines = codes "a\r\nbc"

has-line_feed_on_its_line : position_of two_lines 2 ≡ Ok (0, 2)
unfolding position_of lines_of chars encode
has-line_feed_on_its_line = refl

begins-second_line : position_of two_lines 3 ≡ Ok (1, 0)
unfolding position_of lines_of chars encode
begins-second_line = refl

has-end : position_of two_lines 5 ≡ Ok (1, 2)
unfolding position_of lines_of chars encode
has-end = refl

has-nothing_past_end : position_of two_lines 6 ≡ Err PastText
unfolding position_of lines_of chars encode
has-nothing_past_end = refl

has-offset : offset_of two_lines 1 1 ≡ Ok 4
unfolding offset_of lines_of chars encode
has-offset = refl

has-offset_of_end : offset_of two_lines 1 2 ≡ Ok 5
unfolding offset_of lines_of chars encode
has-offset_of_end = refl

ends-first_line : offset_of two_lines 0 3 ≡ Err PastLine
unfolding offset_of lines_of chars encode
ends-first_line = refl

has-two_lines : offset_of two_lines 2 0 ≡ Err NoLine
unfolding offset_of lines_of chars encode
has-two_lines = refl

-- the smiling face U+1F600 and `x`
abbrev face : List ℕ
face = 240 ∷ 159 ∷ 152 ∷ 128 ∷ 120 ∷ []

has-no_position_inside : position_of face 1 ≡ Err InsidePair
unfolding position_of lines_of chars encode
has-no_position_inside = refl

has-no_offset_inside : offset_of face 0 1 ≡ Err InsidePair
unfolding offset_of lines_of chars encode
has-no_offset_inside = refl

counts-two_units : position_of face 2 ≡ Ok (0, 2)
unfolding position_of lines_of chars encode
counts-two_units = refl

has-one_empty_line : position_of [] 0 ≡ Ok (0, 0)
unfolding position_of lines_of chars encode
has-one_empty_line = refl
