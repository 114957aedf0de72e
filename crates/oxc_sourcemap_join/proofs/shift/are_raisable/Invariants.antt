use Rattle.std.proofs.Common.{◌+◌, ◌<◌, take}
use Rattle.std.specs.List.{All}
use Rattle.oxc_sourcemap_join.proofs.shift.are_raisable.Given as goal

abbrev pub invariant-loop-id : goal.invariant-loop-id
invariant-loop-id l = All (λ id. id + l.number < 4294967295) (take l.id-index l.ids)
