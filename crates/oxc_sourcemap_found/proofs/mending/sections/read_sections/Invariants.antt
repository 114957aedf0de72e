use Rattle.std.proofs.Common.{◌≡◌, None, map, length}
use Rattle.std.specs.Vec.Iter.{into_iter_items, into_iter_len}
use Rattle.serde_json.specs.View.{items_view}
use Rattle.oxc_sourcemap_found.specs.FoundPlaces.{found_sections_place}
use Rattle.oxc_sourcemap_found.specs.Views.{section_view}
use Rattle.oxc_sourcemap_found.proofs.SoFar.{AreRead}
use Rattle.oxc_sourcemap_found.proofs.mending.sections.read_sections.Given as goal

abbrev pub invariant-loop-item : goal.invariant-loop-item
invariant-loop-item l = record {
  read : AreRead (items_view l.fn.items.items) (items_view (into_iter_items l.item-iterator)) l.before (map section_view l.sections.items);
  place : found_sections_place l.before (length l.sections.items) (items_view (into_iter_items l.item-iterator)) ≡ found_sections_place None 0 (items_view l.fn.items.items);
  len : into_iter_len l.item-iterator ≡ length (into_iter_items l.item-iterator);
}
