use Rattle.std.proofs.Common.{◌≡◌, map, length}
use Rattle.std.specs.Vec.Iter.{into_iter_items, into_iter_len}
use Rattle.oxc_sourcemap_join.specs.Joined.{owned_records}
use Rattle.oxc_sourcemap_found.specs.Views.{section_view}
use Rattle.oxc_sourcemap_found.proofs.SoFar.{AreCut}
use Rattle.oxc_sourcemap_found.proofs.mending.cut.cut_sections.Given as goal

abbrev pub invariant-loop-section : goal.invariant-loop-section
invariant-loop-section l = record {
  are_cut : AreCut (map section_view l.fn.sections.items) (map section_view (into_iter_items l.section-iterator)) (owned_records l.maps.items) l.mends.items l.nexts;
  len : into_iter_len l.section-iterator ≡ length (into_iter_items l.section-iterator);
}
