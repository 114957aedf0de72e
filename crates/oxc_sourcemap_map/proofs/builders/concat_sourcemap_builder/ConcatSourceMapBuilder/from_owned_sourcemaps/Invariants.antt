use Rattle.std.proofs.Common.{◌≡◌}
use Rattle.oxc_sourcemap_join.specs.Joined.{at_lines, added_all, joined, IsWithinLimits}
use Rattle.oxc_sourcemap_map.proofs.builders.concat_sourcemap_builder.ConcatSourceMapBuilder.from_owned_sourcemaps.Given as goal

abbrev pub invariant-loop-sourcemap : goal.invariant-loop-sourcemap
invariant-loop-sourcemap l = record {
  all : added_all l.builder (at_lines l.sourcemap-iterator.rest.items) ≡ joined (at_lines l.fn.sourcemap_and_line_offsets.items);
  within : IsWithinLimits l.builder;
}
