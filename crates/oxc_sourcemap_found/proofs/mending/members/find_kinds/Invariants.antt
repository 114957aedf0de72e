use Rattle.std.proofs.Common.{◌≡◌, ◌++◌, map, drop}
use Rattle.serde_json.specs.View.{view}
use Rattle.oxc_sourcemap_found.specs.Mended.{kinds_from}
use Rattle.oxc_sourcemap_found.proofs.mending.members.find_kinds.Given as goal

abbrev pub invariant-loop-k : goal.invariant-loop-k
invariant-loop-k l = kinds_from l.list 0 (map view l.items) ≡ l.kinds.items ++ kinds_from l.list l.k (map view (drop l.k l.items))
