-- Source roots of decoded maps: as those of maps.
use Rattle.std.specs.Prelude.{[], map, Option, Some, None, option_map}
use Rattle.oxc_sourcemap_parts.specs.Record.{Text}
use Rattle.oxc_sourcemap_parts.specs.DecodedMap.{DecodedSource, OriginalPosition, DecodedMapping}
use Rattle.oxc_sourcemap_parts.specs.DecodedMap.{DecodedMap}
use Rattle.oxc_sourcemap_parts.specs.Roots.{rooted_source}

-- a source with this root before its path, if there is one
abbrev pub with_root : Option Text → DecodedSource → DecodedSource
with_root None source = source
with_root (Some root) source = record source { path = rooted_source root source.path }

abbrev pub rooted_original : Option Text → OriginalPosition → OriginalPosition
rooted_original root o = record o { source = with_root root o.source }

abbrev pub rooted_mapping : Option Text → DecodedMapping → DecodedMapping
rooted_mapping root e = record e { original = option_map (rooted_original root) e.original }

-- The decoded map whose sources have its source root before them; it has none then.
abbrev pub rooted_decoded_map : DecodedMap → DecodedMap
rooted_decoded_map s =
    record s { source_root = None; sources = map (with_root s.source_root) s.sources; mappings = map (rooted_mapping s.source_root) s.mappings }

-- ---- without paths
abbrev pub pathless_source : DecodedSource → DecodedSource
pathless_source source = record source { path = [] }

abbrev pub pathless_original : OriginalPosition → OriginalPosition
pathless_original o = record o { source = pathless_source o.source }

abbrev pub pathless_mapping : DecodedMapping → DecodedMapping
pathless_mapping e = record e { original = option_map pathless_original e.original }

-- a decoded map without its source root and the paths of its sources
abbrev pub without_paths : DecodedMap → DecodedMap
without_paths s = record s { source_root = None; sources = map pathless_source s.sources; mappings = map pathless_mapping s.mappings }
