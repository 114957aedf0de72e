-- Lines of bytes: as texts, and with other texts at some places.
use Rattle.std.specs.Prelude.{◌≡◌, ℕ, Bool, ◌&&◌, nat_le, List, [], ◌∷◌, ◌++◌, drop, length}
use Rattle.std.specs.List.{repeat}
use Rattle.std.specs.Str.{IsUtf8}
use Rattle.std.specs.Str.Lossy.{utf8_valid_len, utf8_invalid_len}
use Rattle.oxc_sourcemap_parts.specs.Record.{Text}
use Rattle.sourcemap_run.specs.declared.raw_lines.Splice.{Splice}
use Rattle.sourcemap_run.specs.Frames.{between}

-- a line from byte `from` on: at each place, from left to right, its text, and between them all as it is
abbrev pub spliced : Text → ℕ → List Splice → Text
spliced line from [] = drop from line
spliced line from (s ∷ ss) = between line from s.start ++ (s.text.now ++ spliced line s.end ss)

-- Places from byte `from` on, of a line with so many bytes, are in a row: each begins where the one ahead of it ends or behind that, does
-- not end before it begins, and the last one ends in the line.
abbrev pub are_in_row : ℕ → ℕ → List Splice → Bool
are_in_row len from [] = nat_le from len
are_in_row len from (s ∷ ss) = nat_le from s.start && nat_le s.start s.end && are_in_row len s.end ss

-- A line as a text whose bytes stand where those of the line do. It is cut into the longest text at its front, the sequence behind that
-- which is no UTF-8 (as `String::from_utf8_lossy` takes it together), and what is left: a NUL stands for each byte of the sequence, and what is
-- left is cut in turn.
pub data IsMasked : Text → Text → Type 0 where
  whole : (line : Text) → IsUtf8 line → IsMasked line line
  cut : (line valid invalid rest text : Text) → line ≡ valid ++ (invalid ++ rest) → length valid ≡ utf8_valid_len line
      → length invalid ≡ utf8_invalid_len (drop (utf8_valid_len line) line) → IsMasked rest text
      → IsMasked line (valid ++ (repeat (length invalid) (0 ∷ []) ++ text))
