use Rattle.std.proofs.Common.{◌≡◌, take}
use Rattle.oxc_sourcemap_found.specs.MendedMaps.{mends_in}
use Rattle.oxc_sourcemap_found.proofs.mending.cut.mends_in.Given as goal

abbrev pub invariant-loop-kind : goal.invariant-loop-kind
invariant-loop-kind l = l.mends.items ≡ mends_in l.section (take l.kind-index l.kinds)
