use Rattle.std.proofs.Common.{◌≡◌, drop}
use Rattle.oxc_sourcemap_c.specs.Making.{tokens_fault}
use Rattle.oxc_sourcemap_c.proofs.making.whole_lists.tokens_fault.Given as goal

abbrev pub invariant-loop-token : goal.invariant-loop-token
invariant-loop-token l = tokens_fault l.names l.sources (drop l.token-index l.tokens) ≡ tokens_fault l.names l.sources l.tokens
