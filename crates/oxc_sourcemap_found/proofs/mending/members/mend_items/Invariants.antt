use Rattle.std.proofs.Common.{◌≡◌, map}
use Rattle.std.specs.List.{flat_map}
use Rattle.serde_json.specs.View.{view}
use Rattle.oxc_sourcemap_found.specs.Mended.{mended_entry}
use Rattle.oxc_sourcemap_found.proofs.mending.members.mend_items.Given as goal

abbrev pub invariant-loop-item : goal.invariant-loop-item
invariant-loop-item l = map view l.mended.items ≡ flat_map (mended_entry l.list) (map view l.yielded)
