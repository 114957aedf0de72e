use Rattle.std.proofs.Common.{◌≡◌, map, take}
use Rattle.std.specs.Cow.{cow_str_bytes}
use Rattle.oxc_sourcemap_parts.specs.Words.{record_of_parts}
use Rattle.sourcemap_files.specs.Sections.{sources_of}
use Rattle.sourcemap_files.proofs.sections.sources_of.Given as goal

abbrev pub invariant-loop-map : goal.invariant-loop-map
invariant-loop-map l = map cow_str_bytes l.sources.items ≡ sources_of (map record_of_parts (take l.map-index l.maps))
