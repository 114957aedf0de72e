-- The trace of a decoded map at a generated position.
use Rattle.std.specs.Prelude.{ℕ, Option}
use Rattle.std.specs.Option.{option_map}
use Rattle.oxc_sourcemap_tokens.specs.Token.{TokenRecord}
use Rattle.oxc_sourcemap_parts.specs.Record.{MapRecord}
use Rattle.oxc_sourcemap_parts.specs.DecodedMap.{DecodedMap, OriginalPosition, mapping_line}
use Rattle.oxc_sourcemap_parts.specs.DecodedMap.{mapping_column, original_of, sources_of}
use Rattle.oxc_sourcemap_lookup.specs.Lookup.{pick, clamped_pick}

-- what the mapping found there points to: none if no mapping is found, and `Some None` for an unmapped one
abbrev pub trace : DecodedMap → ℕ → ℕ → Option (Option OriginalPosition)
trace s line col = option_map (λ e. e.original) (pick mapping_line mapping_column s.mappings line col)

-- what the mapping found there points to, where the line's first mapping is found in place of none
abbrev pub clamped_trace : DecodedMap → ℕ → ℕ → Option (Option OriginalPosition)
clamped_trace s line col = option_map (λ e. e.original) (clamped_pick mapping_line mapping_column s.mappings line col)

-- what a token of a map points to
abbrev pub original_in : MapRecord → TokenRecord → Option OriginalPosition
original_in r t = original_of (sources_of r.sources r.source_contents) r.names t
