use Rattle.std.proofs.Common.{subst}
use Rattle.std.proofs.lemmas.List.{take_all}
use Rattle.std.proofs.lemmas.List.Elements.{All-more}
use Rattle.oxc_sourcemap_tokens.specs.Token.{IsInBounds, AreInBounds}
use Rattle.oxc_sourcemap_join.proofs.shift.tokens_in_bounds.Goals as goal

pub loop-token-preserved : goal.loop-token-preserved
loop-token-preserved c = All-more IsInBounds c.args.tokens.now c.loop-token.token-index _ c.loop-token-test.true c.loop-token.invariant (subst IsInBounds c.token-item.is c.get_dst_line-line.ensures.in_bounds)

pub returns : goal.returns
returns c = subst AreInBounds (take_all c.loop-token.token-index c.args.tokens.now c.loop-token-test.false) c.loop-token.invariant
