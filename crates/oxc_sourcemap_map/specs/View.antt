-- A token together with the map that its ids are looked up in, and what the ids name there.
use Rattle.std.specs.Prelude.{ℕ, List, slice_get, Option}
use Rattle.std.specs.Option.{option_and_then, option_zip}
use Rattle.oxc_sourcemap_tokens.specs.Token.{TokenRecord}
use Rattle.oxc_sourcemap_parts.specs.Record.{Text, MapRecord}
use Rattle.oxc_sourcemap_parts.specs.DecodedMap.{OriginalPosition, name_of}
use Rattle.oxc_sourcemap_lookup.specs.Trace.{original_in}
use Rattle.oxc_sourcemap_map.specs.declared.maps.source_view_token.SourceViewToken.{SourceViewToken}

-- a token of a map
pub record ViewRecord : Type 0 where
  pub token : TokenRecord
  pub map : MapRecord

-- what contracts see of a view
abbrev pub view_of : SourceViewToken → ViewRecord
view_of v = record { token = v.token; map = v.sourcemap.now }

-- a token, seen in a map
abbrev pub seen_in : MapRecord → TokenRecord → ViewRecord
seen_in r t = record { token = t; map = r }

-- the content listed at an index, if there is one and it is known
abbrev pub content_at : List (Option Text) → ℕ → Option Text
content_at contents i = option_and_then (λ content. content) (slice_get contents i)

-- the source at an index, and its content, if both are there
abbrev pub source_and_content_at : MapRecord → ℕ → Option (Text × Text)
source_and_content_at r i = option_zip (slice_get r.sources i) (content_at r.source_contents i)

-- ---- what the ids of a view's token name in its map: the name, the source, its content, and both of these
abbrev pub view_name : ViewRecord → Option Text
view_name v = name_of v.map.names v.token

abbrev pub view_source : ViewRecord → Option Text
view_source v = option_and_then (slice_get v.map.sources) v.token.source_id

abbrev pub view_content : ViewRecord → Option Text
view_content v = option_and_then (content_at v.map.source_contents) v.token.source_id

abbrev pub view_source_and_content : ViewRecord → Option (Text × Text)
view_source_and_content v = option_zip (view_source v) (view_content v)

-- the original position that the token of a view points to in its map
abbrev pub view_original : ViewRecord → Option OriginalPosition
view_original v = original_in v.map v.token
