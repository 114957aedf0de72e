-- Positions in words.
use Rattle.std.specs.Prelude.{◌≡◌, ℕ, ◌+◌, ◌<◌, ◌^◌, ◌==◌, ◌++◌, Bool, codes}
use Rattle.std.specs.List.{before_first, after_first}
use Rattle.std.specs.Str.Parse.{IsNumeral, digits_value}
use Rattle.oxc_sourcemap_tokens.specs.declared.position.Position.{Position}
use Rattle.oxc_sourcemap_parts.specs.Record.{Text}

-- A word is decimal digits alone, of a number up to 4294967295; counted from `base` it stands for n, counted from 0.
pub record IsNumber (base : ℕ) (word : Text) (n : ℕ) : Type 0 where
  pub numeral : IsNumeral 10 word
  pub value : digits_value 10 word ≡ n + base
  pub small : digits_value 10 word < 2 ^ 32

abbrev pub is_colon : ℕ → Bool
is_colon byte = byte == 58

-- A word is `LINE:COLUMN` of this position: before and behind its first colon are these numbers, counted from `base`.
pub record IsPosition (base : ℕ) (word : Text) (p : Position) : Type 0 where
  pub line : IsNumber base (before_first is_colon word) p.line
  pub column : IsNumber base (after_first is_colon word) p.column

-- A word is `SOURCE:LINE:COLUMN` of this source and position: the source, and a colon and a number each for the line and the column,
-- counted from `base`.
pub record IsSourcePosition (base : ℕ) (word source : Text) (p : Position) : Type 0 where
  pub line : Text
  pub column : Text
  pub parts : word ≡ source ++ (codes ":" ++ (line ++ (codes ":" ++ column)))
  pub is_line : IsNumber base line p.line
  pub is_column : IsNumber base column p.column
