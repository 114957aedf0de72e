use Rattle.std.proofs.Common.{◌≡◌, length, map, string_bytes}
use Rattle.std.specs.Vec.Iter.{into_iter_items, into_iter_len}
use Rattle.serde_json.specs.Find.{as_str}
use Rattle.oxc_sourcemap_json.proofs.Moving.{AreAll, IsLeft}
use Rattle.oxc_sourcemap_json.proofs.object.members.texts_of.Given as goal

abbrev pub invariant-loop-item : goal.invariant-loop-item
invariant-loop-item l =
    AreAll as_str (into_iter_items l.initial.item-iterator) (map string_bytes l.texts.items) (into_iter_items l.item-iterator)
    × (into_iter_len l.item-iterator ≡ length (into_iter_items l.item-iterator))
    × IsLeft as_str (into_iter_items l.initial.item-iterator) (length l.texts.items) (into_iter_items l.item-iterator)
