-- Remapping of decoded maps: what points into a source that has an input goes on through the input; all else stays. The sources
-- and the ignore list are those of `Blocks`, as for maps.
use Rattle.std.specs.Prelude.{List, map, Option, Some, None}
use Rattle.std.specs.Option.{option_and_then}
use Rattle.oxc_sourcemap_parts.specs.Record.{Text}
use Rattle.oxc_sourcemap_parts.specs.DecodedMap.{OriginalPosition, DecodedMapping, DecodedMap}
use Rattle.oxc_sourcemap_steps.specs.Blocks.{remapped_sources, remapped_ignore_list}
use Rattle.oxc_sourcemap_steps.specs.Inputs.{input_for}
use Rattle.oxc_sourcemap_plan.specs.ComposedDecodedMaps.{original_through}

-- what an original position becomes whose source has this input, or none: without an input it stays, with one it is what a
-- composition finds for it there
abbrev pub original_through_input : Option DecodedMap → OriginalPosition → Option OriginalPosition
original_through_input None o = Some o
original_through_input (Some b) o = original_through b.mappings o

abbrev pub remapped_original : List (Text × DecodedMap) → OriginalPosition → Option OriginalPosition
remapped_original inputs o = original_through_input (input_for inputs o.source.path) o

-- a mapping of the first decoded map, which now points to that
abbrev pub remapped_mapping : List (Text × DecodedMap) → DecodedMapping → DecodedMapping
remapped_mapping inputs e = record e { original = option_and_then (remapped_original inputs) e.original }

-- File and debug id are the first decoded map's; no source root is kept, as in joins.
abbrev pub remapped_decoded_map : DecodedMap → List (Text × DecodedMap) → DecodedMap
remapped_decoded_map a inputs = record {
  file = a.file;
  source_root = None;
  debug_id = a.debug_id;
  ignore_list = remapped_ignore_list inputs a;
  sources = remapped_sources inputs a.sources;
  mappings = map (remapped_mapping inputs) a.mappings;
}
