-- What a pass over a text finds, and the index made of it.
use Rattle.std.specs.Prelude.{◌≡◌, ℕ, ◌+◌, ◌≤◌, Bool, true, false, List, [], ◌∷◌, ◌++◌, length}
use Rattle.std.specs.Prelude.{if◌then◌else◌, ◌||◌, ◌==◌}
use Rattle.std.specs.Char.Utf16.{is_low_surrogate}
use Rattle.oxc_sourcemap_text.specs.declared.positions.scan.Scan.{Scan}
use Rattle.oxc_sourcemap_text.specs.TextLines.{units_of, lines_of, text_lines}
use Rattle.oxc_sourcemap_text.specs.TextLines.{begins_with_line_feed}

-- where each of these lines begins, the first at this offset
abbrev pub starts_from : ℕ → List (List ℕ) → List ℕ
starts_from offset [] = []
starts_from offset (line ∷ lines) = offset ∷ starts_from (offset + length line) lines

-- where the lines after the first one begin
abbrev pub later_starts : ℕ → List (List ℕ) → List ℕ
later_starts offset [] = []
later_starts offset (line ∷ lines) = starts_from (offset + length line) lines

-- the offsets of second halves of surrogate pairs among these units, the first of which is at this offset
abbrev pub second_halves : ℕ → List ℕ → List ℕ
second_halves offset [] = []
second_halves offset (unit ∷ units) =
    if is_low_surrogate unit then offset ∷ second_halves (offset + 1) units else second_halves (offset + 1) units

-- a line ends after this unit, whatever follows
abbrev pub ends_line_alone : ℕ → Bool
ends_line_alone unit = unit == 10 || (unit == 0x2028 || unit == 0x2029)

-- The starts that are still to be listed, if these units follow. After a carriage return a line begins, unless a line feed follows.
abbrev pub starts_ahead : ℕ → Bool → List ℕ → List ℕ
starts_ahead offset false after = later_starts offset (lines_of after)
starts_ahead offset true after =
    if begins_with_line_feed after then later_starts offset (lines_of after) else starts_from offset (lines_of after)

-- The scan of these units: what it has listed is right, whatever follows.
pub record IsScan (units : List ℕ) (s : Scan) : Type 0 where
  pub lines : (after : List ℕ) → starts_from 0 (lines_of (units ++ after)) ≡ s.starts.items ++ starts_ahead s.len s.is_after_return after
  pub pairs : (after : List ℕ) → second_halves 0 (units ++ after) ≡ s.second_halves.items ++ second_halves s.len after
  pub size : s.len ≡ length units

-- where the lines of a text begin, where the second halves of its surrogate pairs are, and the number of its units, which fits 32 bits
pub record IsIndexOf (text starts halves : List ℕ) (len : ℕ) : Type 0 where
  pub lines : starts ≡ starts_from 0 (text_lines text)
  pub pairs : halves ≡ second_halves 0 (units_of text)
  pub size : len ≡ length (units_of text)
  pub small : len ≤ 4294967295
