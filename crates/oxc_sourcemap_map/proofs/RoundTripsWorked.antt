-- The round trip of reverse lookups, computed by the definitions themselves.
use Rattle.std.specs.Prelude.{◌≡◌, refl, ℕ, [], ◌∷◌, Option, Some, None, codes}
use Rattle.oxc_sourcemap_tokens.specs.Token.{TokenRecord}
use Rattle.oxc_sourcemap_parts.specs.DecodedMap.{OriginalPosition, decoded_map_of}
use Rattle.oxc_sourcemap_parts.specs.Record.{MapRecord}
use Rattle.oxc_sourcemap_parts.specs.Views.{empty_record}
use Rattle.oxc_sourcemap_lookup.specs.Lookup.{first}
use Rattle.oxc_sourcemap_lookup.specs.Trace.{trace}
use Rattle.oxc_sourcemap_map.specs.Reverse.{generated_at}
use Rattle.oxc_sourcemap_map.specs.RoundTrips.{tokens_at, position_in_source}

-- from a generated column to a source column, both on line 0
abbrev token : ℕ → ℕ → TokenRecord
token dst_col src_col = record { dst_line = 0; dst_col = dst_col; src_line = 0; src_col = src_col; source_id = Some 0; name_id = None }

-- two of these are at one generated position
abbrev map : MapRecord
map = record empty_record { sources = codes "a.js" ∷ []; tokens = token 2 4 ∷ token 2 9 ∷ token 5 9 ∷ [] }

abbrev column : ℕ → Option OriginalPosition
column col = position_in_source map 0 0 col None

-- the first one leads back
finds-the_first : generated_at 0 0 4 map.tokens ≡ token 2 4 ∷ []
finds-the_first = refl

leads-back : trace (decoded_map_of map) 0 2 ≡ Some (column 4)
leads-back = refl

-- of these two only the second one does: the other is not the first at its position
finds-two : generated_at 0 0 9 map.tokens ≡ token 2 9 ∷ token 5 9 ∷ []
finds-two = refl

is-not_first : first (tokens_at 0 2 map.tokens) ≡ Some (token 2 4)
is-not_first = refl

leads-back_there : trace (decoded_map_of map) 0 5 ≡ Some (column 9)
leads-back_there = refl
