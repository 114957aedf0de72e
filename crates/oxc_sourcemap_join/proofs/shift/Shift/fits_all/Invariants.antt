use Rattle.std.proofs.Common.{take}
use Rattle.std.specs.List.{All}
use Rattle.oxc_sourcemap_tokens.specs.Token.{IsInBounds}
use Rattle.oxc_sourcemap_join.specs.Joined.{shifted}
use Rattle.oxc_sourcemap_join.proofs.shift.Shift.fits_all.Given as goal

abbrev pub invariant-loop-token : goal.invariant-loop-token
invariant-loop-token l = All (λ t. IsInBounds (shifted l.self.names l.self.sources l.self.position t)) (take l.token-index l.tokens)
