-- The pieces of ranges of generated code, and the first differences of maps, as handles answer them.
use Rattle.std.specs.Prelude.{◌≡◌, ℕ, true, List, length, map, Option, Result, Ok, Err, MatchOption}
use Rattle.std.specs.Prelude.{MatchResult}
use Rattle.oxc_sourcemap_tokens.specs.declared.position.Position.{Position}
use Rattle.oxc_sourcemap_parts.specs.Record.{MapRecord}
use Rattle.oxc_sourcemap_parts.specs.Sorted.{are_tokens_sorted}
use Rattle.oxc_sourcemap_queries.specs.Differences.{HaveSameTraceEverywhere, IsFirstDifference}
use Rattle.oxc_sourcemap_queries.specs.Differences.{IfBothSorted}
use Rattle.oxc_sourcemap_queries.specs.RangePieces.{place, pieces_of, DoCover}
use Rattle.oxc_sourcemap_queries.specs.declared.pieces.cuts.Piece.{Piece}
use Rattle.oxc_sourcemap_c.specs.declared.numbers.call_error.CallError.{CallError}
use Rattle.oxc_sourcemap_c.specs.declared.numbers.call_error.CallError.TheVariants.{NullHandle}
use Rattle.oxc_sourcemap_c.specs.declared.numbers.call_error.CallError.TheVariants.{NoEntry}
use Rattle.oxc_sourcemap_c.specs.declared.texts.text.PieceNumbers.{PieceNumbers}
use Rattle.oxc_sourcemap_c.specs.Listed.{filled}
use Rattle.oxc_sourcemap_c.specs.Structs.{piece_numbers}

-- Pieces that cover a range are written, and their number is told. If the tokens of the map are sorted, they are those of the map.
pub record ArePieces (m : MapRecord) (begin end : Position) (answer : Result ℕ CallError) (old new : List PieceNumbers) : Type 0 where
  pub pieces : List Piece
  pub count : answer ≡ Ok (length pieces)
  pub written : new ≡ filled (map piece_numbers pieces) old
  pub cover : DoCover (place begin.line begin.column) (place end.line end.column) pieces
  pub are : are_tokens_sorted m.tokens ≡ true → pieces ≡ pieces_of m.tokens begin.line begin.column end.line end.column

-- the first position at which two maps have different traces, or `NoEntry` if there is none
abbrev pub IsDifferenceOf : MapRecord → MapRecord → Result Position CallError → Type 0
IsDifferenceOf a b answer =
    MatchResult answer (λ at. IfBothSorted a b (IsFirstDifference a b at)) (λ r. (r ≡ NoEntry) × IfBothSorted a b (HaveSameTraceEverywhere a b))

-- the same of what two handles hold
abbrev pub IsDifference : Option MapRecord → Option MapRecord → Result Position CallError → Type 0
IsDifference a b answer =
    MatchOption a (answer ≡ Err NullHandle) (λ a. MatchOption b (answer ≡ Err NullHandle) (λ b. IsDifferenceOf a b answer))
