use Rattle.std.proofs.Common.{◌≡◌, drop}
use Rattle.oxc_sourcemap_join.specs.Joined.{added_all, joined, IsWithinLimits, lent_maps}
use Rattle.oxc_sourcemap_map.proofs.builders.concat_sourcemap_builder.ConcatSourceMapBuilder.from_sourcemaps.Given as goal

abbrev pub invariant-loop-sourcemap : goal.invariant-loop-sourcemap
invariant-loop-sourcemap l = record {
  all : added_all l.builder (lent_maps (drop l.sourcemap-index l.sourcemap_and_line_offsets)) ≡ joined (lent_maps l.sourcemap_and_line_offsets);
  within : IsWithinLimits l.builder;
}
