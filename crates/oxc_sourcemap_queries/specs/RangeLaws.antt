-- Laws of the pieces of a range, over any list of tokens.
use Rattle.std.specs.Prelude.{◌≡◌, ℕ, ◌<◌, ◌≤◌, List, option_map}
use Rattle.std.specs.List.{AllByRecursion}
use Rattle.oxc_sourcemap_tokens.specs.Token.{TokenRecord}
use Rattle.oxc_sourcemap_parts.specs.Record.{MapRecord}
use Rattle.oxc_sourcemap_parts.specs.DecodedMap.{decoded_map_of}
use Rattle.oxc_sourcemap_lookup.specs.Lookup.{token_for, index_for}
use Rattle.oxc_sourcemap_lookup.specs.Trace.{trace, original_in}
use Rattle.oxc_sourcemap_queries.specs.declared.pieces.cuts.Piece.{Piece}
use Rattle.oxc_sourcemap_queries.specs.RangePieces.{place, start_of, end_of, pieces_of, DoCover}

-- a position is in a piece
pub record IsIn (piece : Piece) (line col : ℕ) : Type 0 where
  pub column : col < 4294967296
  pub from_start : start_of piece ≤ place line col
  pub before_end : place line col < end_of piece

-- The pieces of a range are in order, none is empty, they do not overlap, and together they are the range.
abbrev pub PiecesCover : Type 0
PiecesCover = (tokens : List TokenRecord) (line col end_line end_col : ℕ)
    → DoCover (place line col) (place end_line end_col) (pieces_of tokens line col end_line end_col)

-- At every position of a piece, the lookup finds the token of the piece.
abbrev pub PiecesHold : Type 0
PiecesHold = (tokens : List TokenRecord) (line col end_line end_col : ℕ)
    → AllByRecursion (λ piece. (l c : ℕ) → IsIn piece l c → token_for tokens l c ≡ piece.token)
    (pieces_of tokens line col end_line end_col)

-- At every position of a piece, the lookup finds the token of this index.
abbrev pub PiecesIndex : Type 0
PiecesIndex = (tokens : List TokenRecord) (line col end_line end_col : ℕ)
    → AllByRecursion (λ piece. (l c : ℕ) → IsIn piece l c → index_for tokens l c ≡ piece.index)
    (pieces_of tokens line col end_line end_col)

-- At every position of a piece, the trace of the map is what the token of the piece points to.
abbrev pub PiecesTrace : Type 0
PiecesTrace = (r : MapRecord) (line col end_line end_col : ℕ)
    → AllByRecursion (λ piece. (l c : ℕ) → IsIn piece l c
    → trace (decoded_map_of r) l c ≡ option_map (original_in r) piece.token)
    (pieces_of r.tokens line col end_line end_col)
