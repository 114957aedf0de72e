-- How a range is cut from left to right.
use Rattle.std.specs.Prelude.{ℕ, zero, suc, ◌+◌, ◌*◌, ◌<◌, ◌≤◌, ◌==◌, nat_lt, nat_le, false, List}
use Rattle.std.specs.Prelude.{[], ◌∷◌, length, drop, get_or, slice_get, min, Option, Some, None}
use Rattle.std.specs.Prelude.{is_some, if◌then◌else◌}
use Rattle.std.specs.Option.{option_map_or}
use Rattle.std.specs.List.{prefix_len}
use Rattle.oxc_sourcemap_tokens.specs.Token.{TokenRecord}
use Rattle.oxc_sourcemap_queries.specs.declared.pieces.cuts.Piece.{Piece}
use Rattle.oxc_sourcemap_queries.specs.declared.pieces.cuts.Cut.{Cut}
use Rattle.oxc_sourcemap_queries.specs.RangePieces.{place, line_of, piece_of}

-- the place of a token
abbrev pub token_position : TokenRecord → ℕ
token_position t = place t.dst_line t.dst_col

-- the index before `next`, if the token there lies on the line of a place
abbrev pub holder_before : List TokenRecord → ℕ → ℕ → Option ℕ
holder_before tokens zero p = None
holder_before tokens (suc i) p =
    if option_map_or (λ t. t.dst_line == line_of p) (slice_get tokens i) false then Some i else None

-- the index of the token that is found at a place, if the token at index `next` is the first that does not lie before it
abbrev pub holder : List TokenRecord → ℕ → ℕ → Option ℕ
holder tokens next p =
    if option_map_or (λ t. token_position t == p) (slice_get tokens next) false then Some next else holder_before tokens next p

-- how many tokens from index `next` on do not lie after a place, up to the first that does
abbrev pub passed_count : List TokenRecord → ℕ → ℕ → ℕ
passed_count tokens next p = prefix_len (λ t. nat_le (token_position t) p) (drop next tokens)

-- where the line after that of a place begins
abbrev pub line_end : ℕ → ℕ
line_end p = (line_of p + 1) * 4294967296

-- the end of a range, or the place of the token at this index if that comes first
abbrev pub end_before : List TokenRecord → ℕ → ℕ → ℕ
end_before tokens i end = option_map_or (λ t. min (token_position t) end) (slice_get tokens i) end

-- where what is found at a place ends: at the token at index `after`, and at the end of the line if it is a token
abbrev pub run_end : List TokenRecord → ℕ → Option ℕ → ℕ → ℕ → ℕ
run_end tokens after found p end =
    if is_some found then min (end_before tokens after end) (line_end p) else end_before tokens after end

-- the first cut of the range from a place up to an end: of several tokens there the first is found at one place
abbrev pub cut_at : List TokenRecord → ℕ → ℕ → ℕ → Cut
cut_at tokens next p end =
    let count = passed_count tokens next p in
    let found = holder tokens next p in
    record { found = found; next = next + count; end = if nat_lt 1 count then p + 1 else run_end tokens (next + count) found p end }

-- the first n pieces of the range from a place up to an end
abbrev pub pieces_left : List TokenRecord → ℕ → ℕ → ℕ → ℕ → List Piece
pieces_left tokens next p end zero = []
pieces_left tokens next p end (suc n) =
    let cut = cut_at tokens next p end in
    piece_of tokens (record { start = p; end = cut.end; found = cut.found }) ∷ pieces_left tokens cut.next cut.end end n

-- the range from a place up to an end has this number of pieces
abbrev pub AreLeft : List TokenRecord → ℕ → ℕ → ℕ → ℕ → Type 0
AreLeft tokens next p end zero = end ≤ p
AreLeft tokens next p end (suc n) =
    let cut = cut_at tokens next p end in
    (next ≤ length tokens) × (p < end) × AreLeft tokens cut.next cut.end end n

-- what stands for a token past the end
abbrev pub no_token : TokenRecord
no_token = record { dst_line = 0; dst_col = 0; src_line = 0; src_col = 0; source_id = None; name_id = None }

-- this number of tokens lie before a place, and the others do not
pub record IsStart (tokens : List TokenRecord) (p next : ℕ) : Type 0 where
  pub within : next ≤ length tokens
  pub before : (i : ℕ) → i < next → token_position (get_or tokens i no_token) < p
  pub others : (i : ℕ) → next ≤ i → i < length tokens → p ≤ token_position (get_or tokens i no_token)
