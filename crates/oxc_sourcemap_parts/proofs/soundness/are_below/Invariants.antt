use Rattle.std.proofs.Common.{◌<◌}
use Rattle.oxc_sourcemap_parts.proofs.Each.{IsLeft}
use Rattle.oxc_sourcemap_parts.proofs.soundness.are_below.Given as goal

abbrev pub invariant-loop-id : goal.invariant-loop-id
invariant-loop-id l = IsLeft (λ id. id < l.count) l.ids l.id-index
