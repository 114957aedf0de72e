use Rattle.std.proofs.Common.{◌≡◌, length, map, option_map, string_bytes}
use Rattle.std.specs.Vec.Iter.{into_iter_items, into_iter_len}
use Rattle.oxc_sourcemap_json.specs.Shape.{as_content}
use Rattle.oxc_sourcemap_json.proofs.Moving.{AreAll, IsLeft}
use Rattle.oxc_sourcemap_json.proofs.object.members.contents_of.Given as goal

abbrev pub invariant-loop-item : goal.invariant-loop-item
invariant-loop-item l =
    AreAll as_content (into_iter_items l.initial.item-iterator) (map (option_map string_bytes) l.contents.items) (into_iter_items l.item-iterator)
    × (into_iter_len l.item-iterator ≡ length (into_iter_items l.item-iterator))
    × IsLeft as_content (into_iter_items l.initial.item-iterator) (length l.contents.items) (into_iter_items l.item-iterator)
