use Rattle.std.proofs.Common.{◌≡◌, ◌++◌, drop, length, option_map}
use Rattle.serde_json.specs.View.{items_view}
use Rattle.oxc_sourcemap_json.specs.Shape.{all_items, as_id}
use Rattle.oxc_sourcemap_json.proofs.Moving.{IsLeft}
use Rattle.oxc_sourcemap_json.proofs.object.shape.read_ids.Given as goal

abbrev pub invariant-loop-item : goal.invariant-loop-item
invariant-loop-item l =
    (all_items as_id (items_view l.item-items) ≡ option_map (λ rest. l.ids.items ++ rest) (all_items as_id (items_view (drop l.item-index l.item-items))))
    × IsLeft as_id l.item-items (length l.ids.items) (drop l.item-index l.item-items)
