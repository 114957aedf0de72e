use Rattle.std.proofs.Common.{take}
use Rattle.oxc_sourcemap_tokens.specs.Token.{AreInBounds}
use Rattle.oxc_sourcemap_join.proofs.shift.tokens_in_bounds.Given as goal

abbrev pub invariant-loop-token : goal.invariant-loop-token
invariant-loop-token l = AreInBounds (take l.token-index l.tokens)
