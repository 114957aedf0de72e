-- What the lookups of a position in a table find, as tokens of a map, as views of them, and as their indices. Each word says what
-- is found in a map's own table, if its tokens are sorted, and what in any table.
use Rattle.std.specs.Prelude.{◌≡◌, ◌<◌, ℕ, true, List, [], length, slice_get, Option, IsNone}
use Rattle.std.specs.List.{Contains}
use Rattle.std.specs.Option.{IfSome, option_map, option_and_then}
use Rattle.oxc_sourcemap_tokens.specs.Token.{TokenRecord}
use Rattle.oxc_sourcemap_parts.specs.Record.{MapRecord}
use Rattle.oxc_sourcemap_parts.specs.DecodedMap.{decoded_map_of}
use Rattle.oxc_sourcemap_parts.specs.Sorted.{token_column}
use Rattle.oxc_sourcemap_lookup.specs.Lookup.{at, clamped_at, no_column_goes_back, token_for}
use Rattle.oxc_sourcemap_lookup.specs.Lookup.{clamped_token_for, slice_of, IfOwnTable}
use Rattle.oxc_sourcemap_lookup.specs.Trace.{trace, clamped_trace}
use Rattle.oxc_sourcemap_map.specs.View.{view_of, seen_in, view_original}
use Rattle.oxc_sourcemap_map.specs.declared.maps.source_view_token.SourceViewToken.{SourceViewToken}

-- What a lookup finds: where no column goes back on the line, the token that a rule for lines has, or none; on any line one of its
-- tokens, or none; and in the map's own table, of sorted tokens, the token that a rule for maps has, or none.
pub record Finds (on_line : List TokenRecord → ℕ → Option TokenRecord) (in_map : List TokenRecord → ℕ → ℕ → Option TokenRecord)
    (m : MapRecord) (table : List (List TokenRecord)) (line col : ℕ) (token : Option TokenRecord) : Type 0 where
  pub found : no_column_goes_back token_column (slice_of table line) ≡ true → token ≡ on_line (slice_of table line) col
  pub among : IfSome token (Contains (slice_of table line))
  pub own_table : IfOwnTable m.tokens table (token ≡ in_map m.tokens line col)

-- What the clamped lookup finds, as `Finds` has it; none only on a line without tokens.
pub record FindsClamped (m : MapRecord) (table : List (List TokenRecord)) (line col : ℕ) (token : Option TokenRecord) : Type 0 where
  pub found : no_column_goes_back token_column (slice_of table line) ≡ true → token ≡ clamped_at token_column (slice_of table line) col
  pub among : IfSome token (Contains (slice_of table line))
  pub own_table : IfOwnTable m.tokens table (token ≡ clamped_token_for m.tokens line col)
  pub clamped : IsNone token → slice_of table line ≡ []

-- What the lookup finds as a view of a map: a view of this map and of a token that is found as `Finds` has it, or none. In the
-- map's own table it points to the trace of the decoded map.
pub record Sees (m : MapRecord) (table : List (List TokenRecord)) (line col : ℕ) (view : Option SourceViewToken) : Type 0 where
  pub found : no_column_goes_back token_column (slice_of table line) ≡ true
      → option_map view_of view ≡ option_map (seen_in m) (at token_column (slice_of table line) col)
  pub among : IfSome view (λ v. ((view_of v).map ≡ m) × Contains (slice_of table line) (view_of v).token)
  pub own_table : IfOwnTable m.tokens table (option_map view_of view ≡ option_map (seen_in m) (token_for m.tokens line col))
  pub traced : IfOwnTable m.tokens table (option_map view_original (option_map view_of view) ≡ trace (decoded_map_of m) line col)

-- What the clamped lookup finds as a view of a map, as `Sees` has it; none only on a line without tokens.
pub record SeesClamped (m : MapRecord) (table : List (List TokenRecord)) (line col : ℕ) (view : Option SourceViewToken) : Type 0 where
  pub found : no_column_goes_back token_column (slice_of table line) ≡ true
      → option_map view_of view ≡ option_map (seen_in m) (clamped_at token_column (slice_of table line) col)
  pub among : IfSome view (λ v. ((view_of v).map ≡ m) × Contains (slice_of table line) (view_of v).token)
  pub own_table : IfOwnTable m.tokens table (option_map view_of view ≡ option_map (seen_in m) (clamped_token_for m.tokens line col))
  pub traced : IfOwnTable m.tokens table (option_map view_original (option_map view_of view) ≡ clamped_trace (decoded_map_of m) line col)
  pub clamped : IsNone view → slice_of table line ≡ []

-- What a lookup finds as an index in a map: in the map's own table the index that a rule has for the map, and there the token that
-- the lookup of tokens finds, or none; in any table the index of some token of the map, or none.
pub record FindsIndex (index_in : List TokenRecord → ℕ → ℕ → Option ℕ) (token_in : List TokenRecord → ℕ → ℕ → Option TokenRecord)
    (m : MapRecord) (table : List (List TokenRecord)) (line col : ℕ) (index : Option ℕ) : Type 0 where
  pub own_table : IfOwnTable m.tokens table (index ≡ index_in m.tokens line col)
  pub token : IfOwnTable m.tokens table (option_and_then (slice_get m.tokens) index ≡ token_in m.tokens line col)
  pub within : IfSome index (λ i. i < length m.tokens)
