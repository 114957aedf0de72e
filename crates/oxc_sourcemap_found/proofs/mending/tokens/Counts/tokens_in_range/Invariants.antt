use Rattle.std.proofs.Common.{◌≡◌, map, take}
use Rattle.oxc_sourcemap_found.specs.InRange.{token_in_range}
use Rattle.oxc_sourcemap_found.proofs.mending.tokens.Counts.tokens_in_range.Given as goal

abbrev pub invariant-loop-token : goal.invariant-loop-token
invariant-loop-token l = l.read.items ≡ map (token_in_range l.self.names l.self.sources) (take l.token-index l.tokens)
