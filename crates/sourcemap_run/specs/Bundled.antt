-- Codes and their maps, joined.
use Rattle.std.specs.Prelude.{◌≡◌, ◌⊎◌, ◌≤◌, ◌<◌, ℕ, ◌+◌, List, [], ◌∷◌, ◌++◌, Ok, length}
use Rattle.oxc_sourcemap_tokens.specs.declared.position.Position.{Position}
use Rattle.oxc_sourcemap_parts.specs.Record.{Text, MapRecord}
use Rattle.oxc_sourcemap_parts.specs.Views.{record_of_parts}
use Rattle.oxc_sourcemap_parts.specs.declared.parts.SourceMapParts.{SourceMapParts}
use Rattle.oxc_sourcemap_text.specs.TextLines.{units_of}
use Rattle.oxc_sourcemap_text.specs.Positions.{position_of}

-- a code, at which line the next one begins, and the maps with the positions at which their codes begin
pub record Bundled : Type 0 where
  pub code : Text
  pub line : ℕ
  pub maps : List (MapRecord × Position)

abbrev pub placed_record : SourceMapParts × Position → MapRecord × Position
placed_record m = (record_of_parts m.0, m.1)

-- so many lines end in a text: its end is on the line with this number
abbrev pub HasLineEnds : Text → ℕ → Type 0
HasLineEnds text n = (col : ℕ) × (position_of text (length (units_of text)) ≡ Ok (n, col))

-- a text whose end is the beginning of this line
abbrev pub StandsAt : Text → ℕ → Type 0
StandsAt text line = position_of text (length (units_of text)) ≡ Ok (line, 0)

-- A text in which positions are told: it has at most 4294967295 UTF-16 units.
abbrev pub IsInSize : Text → Type 0
IsInSize text = length (units_of text) ≤ 4294967295

-- A text ends in a line feed.
abbrev pub EndsLine : Text → Type 0
EndsLine text = (front : Text) × (text ≡ front ++ 10 ∷ [])

-- a text with a line feed at its end: its own, or, if it has none there, one more
abbrev pub IsEnded : Text → Text → Type 0
IsEnded text whole = (EndsLine text × (whole ≡ text)) ⊎ (¬ (EndsLine text) × (whole ≡ text ++ 10 ∷ []))

-- A text goes past the limits if it begins on this line: it is too long, or its end is on a line above 4294967295.
abbrev pub IsPastLimits : ℕ → Text → Type 0
IsPastLimits line whole = ¬ (IsInSize whole) ⊎ ((lines : ℕ) × HasLineEnds whole lines × (4294967295 < line + lines))

-- the same of a text with a line feed at its end
abbrev pub IsTooLarge : ℕ → Text → Type 0
IsTooLarge line text = (whole : Text) × IsEnded text whole × IsPastLimits line whole

-- A text with a line feed at its end, within the limits, and the line behind it, if it begins on this line.
pub record IsNext (line : ℕ) (text whole : Text) (next : ℕ) : Type 0 where
  pub is_ended : IsEnded text whole
  pub is_within : ¬ (IsPastLimits line whole)
  pub lines : ℕ
  pub are_lines : HasLineEnds whole lines
  pub is_behind : next ≡ line + lines

-- After a text and these maps are appended. The next code begins where the text ends.
pub record IsPushed (text : Text) (maps : List (MapRecord × Position)) (old new : Bundled) : Type 0 where
  pub whole : Text
  pub is_next : IsNext old.line text whole new.line
  pub code : new.code ≡ old.code ++ whole
  pub joins : new.maps ≡ old.maps ++ maps

-- The code ends where its line begins: it is empty, or ends in a line feed.
pub record IsStanding (code : Text) (line : ℕ) : Type 0 where
  pub ends : (code ≡ []) ⊎ ((front : List ℕ) × (units_of code ≡ front ++ 10 ∷ []))
  pub stands : StandsAt code line
