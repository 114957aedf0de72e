-- Views of tokens, in the words of the decoded map.
use Rattle.std.proofs.Common.{◌≡◌, ℕ, refl, sym, ◌∙◌, Option, Some, None, slice_get, MatchOption}
use Rattle.std.specs.Option.{option_map, option_and_then}
use Rattle.oxc_sourcemap_parts.specs.Record.{Text, MapRecord}
use Rattle.oxc_sourcemap_parts.specs.Sorted.{token_line, token_column}
use Rattle.oxc_sourcemap_parts.specs.DecodedMap.{DecodedSource, OriginalPosition, decoded_map_of}
use Rattle.oxc_sourcemap_parts.specs.DecodedMap.{sources_of, original_at}
use Rattle.oxc_sourcemap_map.specs.View.{ViewRecord, seen_in, view_source, view_name, view_original}
use Rattle.oxc_sourcemap_lookup.proofs.Traces.{twice, token_traced, token_clamped_traced}
use Rattle.oxc_sourcemap_lookup.proofs.Traces.{source_path}
use Rattle.oxc_sourcemap_lookup.specs.Lookup.{pick, clamped_pick}
use Rattle.oxc_sourcemap_lookup.specs.Trace.{trace, clamped_trace}

-- the trace of a decoded map at a position is what the token found there in the map points to
pub traced : (r : MapRecord) (line col : ℕ) → option_map view_original (option_map (seen_in r) (pick token_line token_column r.tokens line col)) ≡ trace (decoded_map_of r) line col
traced r line col = twice view_original (seen_in r) _ ∙ token_traced r line col

pub clamped_traced : (r : MapRecord) (line col : ℕ) → option_map view_original (option_map (seen_in r) (clamped_pick token_line token_column r.tokens line col)) ≡ clamped_trace (decoded_map_of r) line col
clamped_traced r line col = twice view_original (seen_in r) _ ∙ token_clamped_traced r line col

-- the strings of a view are those of the original position
abbrev SaysOrigin : ViewRecord → Option Text → Option OriginalPosition → Type 0
SaysOrigin v source original = MatchOption original (source ≡ None) (λ o. (source ≡ Some o.source.path) × (v.token.src_line ≡ o.src_line) × (v.token.src_col ≡ o.src_col) × (view_name v ≡ o.name))

says-by : (v : ViewRecord) (source : Option DecodedSource) (path : Option Text) → option_map (λ s. s.path) source ≡ path → SaysOrigin v path (option_map (original_at v.map.names v.token) source)
says-by v None path e = sym e
says-by v (Some s) path e = (sym e, refl, refl, refl)

says-id : (v : ViewRecord) (id : Option ℕ) → SaysOrigin v (option_and_then (slice_get v.map.sources) id) (option_map (original_at v.map.names v.token) (option_and_then (slice_get (sources_of v.map.sources v.map.source_contents)) id))
says-id v None = refl
says-id v (Some i) = says-by v (slice_get (sources_of v.map.sources v.map.source_contents) i) (slice_get v.map.sources i) (source_path v.map.sources v.map.source_contents i)

says_origin : (v : ViewRecord) → SaysOrigin v (view_source v) (view_original v)
says_origin v = says-id v v.token.source_id

says-as : (v : ViewRecord) (source : Option Text) (line col : ℕ) (name : Option Text) (original : Option OriginalPosition)
    → source ≡ view_source v → line ≡ v.token.src_line → col ≡ v.token.src_col → name ≡ view_name v → SaysOrigin v (view_source v) original
    → MatchOption original (source ≡ None) (λ o. (source ≡ Some o.source.path) × (line ≡ o.src_line) × (col ≡ o.src_col) × (name ≡ o.name))
says-as v source line col name None p q r s k = p ∙ k
says-as v source line col name (Some o) p q r s k = (p ∙ k.0, q ∙ k.1, r ∙ k.2, s ∙ k.3)

pub tuple_says : (v : ViewRecord) (source : Option Text) (line col : ℕ) (name : Option Text)
    → source ≡ view_source v → line ≡ v.token.src_line → col ≡ v.token.src_col → name ≡ view_name v
    → MatchOption (view_original v) (source ≡ None) (λ o. (source ≡ Some o.source.path) × (line ≡ o.src_line) × (col ≡ o.src_col) × (name ≡ o.name))
tuple_says v source line col name p q r s = says-as v source line col name (view_original v) p q r s (says_origin v)
