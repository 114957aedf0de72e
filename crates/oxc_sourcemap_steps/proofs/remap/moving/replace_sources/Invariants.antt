use Rattle.std.proofs.Common.{◌≡◌, ◌++◌, length}
use Rattle.std.specs.List.{flat_map}
use Rattle.std.specs.Vec.Iter.{into_iter_items}
use Rattle.oxc_sourcemap_steps.specs.RemapSteps.{source_records, source_lists, sources_in}
use Rattle.oxc_sourcemap_steps.specs.RemapSteps.{listed_index}
use Rattle.oxc_sourcemap_steps.proofs.MovedSources.{AreKept}
use Rattle.oxc_sourcemap_steps.proofs.remap.moving.replace_sources.Given as goal

abbrev pub invariant-loop-source : goal.invariant-loop-source
invariant-loop-source l = record {
  left : l.yielded ++ into_iter_items l.source-iterator ≡ l.fn.sources.items;
  count : l.i ≡ length l.yielded;
  each : length l.lists.items ≡ length l.fn.lists.items;
  kept : AreKept (source_lists l.fn.lists.items) l.lists.items l.last l.i;
  all : source_records l.all.items ≡ flat_map (λ s. sources_in (source_lists l.fn.lists.items) (listed_index l.places s.path) s) (source_records l.yielded);
}
