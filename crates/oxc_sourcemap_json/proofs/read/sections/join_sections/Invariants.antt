use Rattle.std.proofs.Common.{◌≡◌, length}
use Rattle.std.specs.Vec.Iter.{into_iter_items, into_iter_len}
use Rattle.serde_json.specs.View.{items_view}
use Rattle.oxc_sourcemap_json.proofs.SectionPlaces.{Passed}
use Rattle.oxc_sourcemap_json.proofs.read.sections.join_sections.Given as goal

abbrev pub invariant-loop-section : goal.invariant-loop-section
invariant-loop-section l = record {
  passed : Passed (items_view l.fn.sections.items) (items_view (into_iter_items l.section-iterator)) l.joined l.before;
  len : into_iter_len l.section-iterator ≡ length (into_iter_items l.section-iterator);
}
