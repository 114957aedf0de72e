-- The pieces of a range of generated code: between which positions the exact lookup finds which token.
use Rattle.std.specs.Prelude.{◌≡◌, ℕ, zero, suc, ◌+◌, ◌-◌, ◌*◌, ◌/◌, ◌%◌, ◌<◌, ◌≤◌, ◌==◌, Bool}
use Rattle.std.specs.Prelude.{true, false, List, [], ◌∷◌, map, slice_get, Option, Some, None}
use Rattle.std.specs.Prelude.{if◌then◌else◌}
use Rattle.std.specs.Option.{option_and_then}
use Rattle.oxc_sourcemap_tokens.specs.Token.{TokenRecord}
use Rattle.oxc_sourcemap_lookup.specs.Lookup.{index_for}
use Rattle.oxc_sourcemap_queries.specs.declared.pieces.cuts.Piece.{Piece}

-- a position as a number, so that positions come one after another as these numbers do
abbrev pub place : ℕ → ℕ → ℕ
place line col = line * 4294967296 + col

-- the line of a place, and its column
abbrev pub line_of : ℕ → ℕ
line_of p = p / 4294967296

abbrev pub column_of : ℕ → ℕ
column_of p = p % 4294967296

-- the index of the token that the lookup of a place finds
abbrev pub index_at_position : List TokenRecord → ℕ → Option ℕ
index_at_position tokens p = index_for tokens (line_of p) (column_of p)

-- a run of places, from the first up to but not including the end, and the index that is found at each of them
pub record Run : Type 0 where
  pub start : ℕ
  pub end : ℕ
  pub found : Option ℕ

-- whether the same is found
abbrev pub is_same : Option ℕ → Option ℕ → Bool
is_same None None = true
is_same None (Some j) = false
is_same (Some i) None = false
is_same (Some i) (Some j) = i == j

-- a place in front of runs: it joins the first run where the same is found, else it is a run by itself
abbrev pub with_place : ℕ → Option ℕ → List Run → List Run
with_place p found [] = record { start = p; end = p + 1; found = found } ∷ []
with_place p found (run ∷ runs) =
    if is_same found run.found
    then record { start = p; end = run.end; found = found } ∷ runs
    else record { start = p; end = p + 1; found = found } ∷ run ∷ runs

-- the longest runs of n places from this one on, where `find` has what is found at each place
abbrev pub runs_from : (ℕ → Option ℕ) → ℕ → ℕ → List Run
runs_from find p zero = []
runs_from find p (suc n) = with_place p (find p) (runs_from find (p + 1) n)

-- a run as a piece: the positions of its two ends, and the token that is found in it, with its index
abbrev pub piece_of : List TokenRecord → Run → Piece
piece_of tokens run = record {
  line = line_of run.start;
  col = column_of run.start;
  end_line = line_of run.end;
  end_col = column_of run.end;
  token = option_and_then (slice_get tokens) run.found;
  index = run.found;
}

-- The pieces of a range: the longest runs of its places at which the lookup finds the same token, or none. (A range whose end
-- is not after its beginning has none.)
abbrev pub pieces_of : List TokenRecord → ℕ → ℕ → ℕ → ℕ → List Piece
pieces_of tokens line col end_line end_col =
    let start = place line col in
    map (piece_of tokens) (runs_from (index_at_position tokens) start (place end_line end_col - start))

-- where a piece begins, and where it ends
abbrev pub start_of : Piece → ℕ
start_of piece = place piece.line piece.col

abbrev pub end_of : Piece → ℕ
end_of piece = place piece.end_line piece.end_col

-- Together these pieces are exactly the places from `start` up to but not including `end`: the first begins there, each other
-- where the one before it ends, the last ends at the end, and none is empty.
abbrev pub DoCover : ℕ → ℕ → List Piece → Type 0
DoCover start end [] = end ≤ start
DoCover start end (piece ∷ pieces) =
    (start_of piece ≡ start) × (start < end_of piece) × (end_of piece ≤ end) × DoCover (end_of piece) end pieces
