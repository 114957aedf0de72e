-- Where the traces of two maps differ first.
use Rattle.std.specs.Prelude.{◌≡◌, ℕ, ◌<◌, ◌⊎◌, true}
use Rattle.oxc_sourcemap_tokens.specs.declared.position.Position.{Position}
use Rattle.oxc_sourcemap_parts.specs.Record.{MapRecord}
use Rattle.oxc_sourcemap_parts.specs.Sorted.{are_tokens_sorted}
use Rattle.oxc_sourcemap_parts.specs.DecodedMap.{decoded_map_of}
use Rattle.oxc_sourcemap_lookup.specs.Trace.{trace}

-- the two maps have the same exact trace at this position: by texts, whatever ids these have
abbrev pub HaveSameTraceAt : MapRecord → MapRecord → ℕ → ℕ → Type 0
HaveSameTraceAt a b line col = trace (decoded_map_of a) line col ≡ trace (decoded_map_of b) line col

-- The two maps have the same exact trace at every position. Columns of positions are at most 4294967295.
abbrev pub HaveSameTraceEverywhere : MapRecord → MapRecord → Type 0
HaveSameTraceEverywhere a b = (line col : ℕ) → col < 4294967296 → HaveSameTraceAt a b line col

-- a line and a column come before a position: on an earlier line, or in an earlier column of its line
abbrev pub IsBefore : ℕ → ℕ → Position → Type 0
IsBefore line col p = (line < p.line) ⊎ ((line ≡ p.line) × (col < p.column))

-- the first position at which the traces differ: there they do, and at no position before it
pub record IsFirstDifference (a b : MapRecord) (p : Position) : Type 0 where
  pub differ : HaveSameTraceAt a b p.line p.column → ⊥
  pub same_before : (line col : ℕ) → col < 4294967296 → IsBefore line col p → HaveSameTraceAt a b line col

-- A statement holds, if the tokens of both maps are sorted.
abbrev pub IfBothSorted : MapRecord → MapRecord → Type 0 → Type 0
IfBothSorted a b holds = are_tokens_sorted a.tokens ≡ true → are_tokens_sorted b.tokens ≡ true → holds
