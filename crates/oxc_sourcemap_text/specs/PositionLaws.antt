-- The law of positions and offsets.
use Rattle.std.specs.Prelude.{◌≡◌, ◌↔◌, ℕ, List, Ok}
use Rattle.oxc_sourcemap_text.specs.Positions.{offset_of, position_of}

-- in any text, an offset has a position exactly if the position has the offset
abbrev pub PositionsAndOffsetsInverse : Type 0
PositionsAndOffsetsInverse =
    (text : List ℕ) (offset line col : ℕ) → (position_of text offset ≡ Ok (line, col)) ↔ (offset_of text line col ≡ Ok offset)
