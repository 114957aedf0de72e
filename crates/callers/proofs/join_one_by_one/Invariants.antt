use Rattle.std.proofs.Common.{◌≡◌, take}
use Rattle.oxc_sourcemap.specs.Joined.{joined, lent_maps}
use Rattle.callers.proofs.join_one_by_one.Given as goal

abbrev pub invariant-loop-sourcemap : goal.invariant-loop-sourcemap
invariant-loop-sourcemap l = l.builder ≡ joined (lent_maps (take l.sourcemap-index l.maps))
