use Rattle.std.proofs.Common.{◌≡◌, ◌++◌, map, option_map}
use Rattle.std.specs.Cow.{cow_str_bytes}
use Rattle.std.specs.Vec.Iter.{into_iter_items}
use Rattle.oxc_sourcemap_parts.specs.DecodedMap.{sources_of}
use Rattle.oxc_sourcemap_steps.specs.RemapSteps.{source_records}
use Rattle.oxc_sourcemap_steps.proofs.remap.moving.take_sources.Given as goal

-- the sources so far and those that are left
abbrev pub invariant-loop-path : goal.invariant-loop-path
invariant-loop-path l =
    source_records l.sources.items ++ sources_of (map cow_str_bytes (into_iter_items l.path-iterator)) (map (option_map cow_str_bytes) (into_iter_items l.contents))
    ≡ sources_of (map cow_str_bytes l.fn.map.sources.items) (map (option_map cow_str_bytes) l.fn.map.source_contents.items)
