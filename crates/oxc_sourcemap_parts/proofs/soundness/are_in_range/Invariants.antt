use Rattle.oxc_sourcemap_parts.specs.Sound.{IsInRange}
use Rattle.oxc_sourcemap_parts.proofs.Each.{IsLeft}
use Rattle.oxc_sourcemap_parts.proofs.soundness.are_in_range.Given as goal

abbrev pub invariant-loop-token : goal.invariant-loop-token
invariant-loop-token l = IsLeft (IsInRange l.names l.sources) l.tokens l.token-index
