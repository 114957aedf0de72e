use Rattle.std.proofs.Common.{◌≡◌, map, take}
use Rattle.oxc_sourcemap_c.specs.Lists.{token_of}
use Rattle.oxc_sourcemap_c.proofs.texts.lists.tokens_of.Given as goal

abbrev pub invariant-loop-numbers : goal.invariant-loop-numbers
invariant-loop-numbers l = l.tokens.items ≡ map token_of (take l.numbers-index l.list)
