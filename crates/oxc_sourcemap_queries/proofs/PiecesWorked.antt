-- Worked examples of pieces, computed by the definitions themselves.
use Rattle.std.specs.Prelude.{◌≡◌, refl, ℕ, List, [], ◌∷◌, Option, Some, None, option_map}
use Rattle.oxc_sourcemap_tokens.specs.Token.{TokenRecord}
use Rattle.oxc_sourcemap_queries.specs.declared.pieces.cuts.Piece.{Piece}
use Rattle.oxc_sourcemap_queries.specs.RangePieces.{pieces_of}

-- a generated position, and a source line
abbrev token : ℕ → ℕ → ℕ → TokenRecord
token dst_line dst_col src_line = record { dst_line = dst_line; dst_col = dst_col; src_line = src_line; src_col = 0; source_id = Some 0; name_id = None }

abbrev piece : ℕ → ℕ → ℕ → ℕ → Option (ℕ × TokenRecord) → Piece
piece line col end_line end_col found = record {
  line = line;
  col = col;
  end_line = end_line;
  end_col = end_col;
  token = option_map (λ p. p.1) found;
  index = option_map (λ p. p.0) found;
}

-- three tokens at column 5
abbrev several : List TokenRecord
several = token 0 2 1 ∷ token 0 5 2 ∷ token 0 5 3 ∷ token 0 5 4 ∷ token 0 9 5 ∷ []

cuts-at_tokens : pieces_of several 0 0 0 12
    ≡ piece 0 0 0 2 None ∷ piece 0 2 0 5 (Some (0, token 0 2 1)) ∷ piece 0 5 0 6 (Some (1, token 0 5 2)) ∷ piece 0 6 0 9 (Some (3, token 0 5 4)) ∷ piece 0 9 0 12 (Some (4, token 0 9 5)) ∷ []
cuts-at_tokens = refl

begins_and_ends-between_tokens : pieces_of several 0 7 0 8 ≡ piece 0 7 0 8 (Some (3, token 0 5 4)) ∷ []
begins_and_ends-between_tokens = refl

-- the last of several tokens has no piece where the next token stands in the next column
leaves_out-what_holds_nowhere : pieces_of (token 0 1 1 ∷ token 0 1 2 ∷ token 0 2 3 ∷ []) 0 0 0 4
    ≡ piece 0 0 0 1 None ∷ piece 0 1 0 2 (Some (0, token 0 1 1)) ∷ piece 0 2 0 4 (Some (2, token 0 2 3)) ∷ []
leaves_out-what_holds_nowhere = refl

-- a token holds to the end of its line
ends-at_the_line : pieces_of (token 0 4294967290 1 ∷ token 1 2 2 ∷ []) 0 4294967288 1 4
    ≡ piece 0 4294967288 0 4294967290 None ∷ piece 0 4294967290 1 0 (Some (0, token 0 4294967290 1)) ∷ piece 1 0 1 2 None ∷ piece 1 2 1 4 (Some (1, token 1 2 2)) ∷ []
ends-at_the_line = refl

-- where no token holds, a piece goes on over lines
goes_on-without_a_token : pieces_of (token 2 0 1 ∷ []) 0 4294967294 1 3 ≡ piece 0 4294967294 1 3 None ∷ []
goes_on-without_a_token = refl

is_none-of_an_empty_range : pieces_of several 0 5 0 5 ≡ []
is_none-of_an_empty_range = refl

is_none-backwards : pieces_of several 0 9 0 2 ≡ []
is_none-backwards = refl
