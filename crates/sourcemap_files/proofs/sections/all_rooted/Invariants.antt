use Rattle.std.proofs.Common.{◌≡◌, map}
use Rattle.std.specs.Cow.{cow_str_bytes}
use Rattle.oxc_sourcemap_parts.specs.Words.{record_of_parts, rooted}
use Rattle.sourcemap_files.specs.Sections.{sources_of}
use Rattle.sourcemap_files.proofs.sections.all_rooted.Given as goal

abbrev pub invariant-loop-map : goal.invariant-loop-map
invariant-loop-map l = map cow_str_bytes l.sources.items ≡ sources_of (map rooted (map record_of_parts l.yielded))
