use Rattle.std.proofs.Common.{subst}
use Rattle.std.specs.List.{All}
use Rattle.std.proofs.lemmas.List.{take_all}
use Rattle.std.proofs.lemmas.List.Elements.{All-more}
use Rattle.oxc_sourcemap_tokens.specs.Token.{IsInBounds}
use Rattle.oxc_sourcemap_tokens.proofs.laws.tokens_in_bounds.Goals as goal

pub loop-token-preserved : goal.loop-token-preserved
loop-token-preserved c =
    let l = c.loop-token in
    All-more IsInBounds c.args.tokens.now l.token-index _ c.loop-token-test.true l.invariant (subst IsInBounds c.token-item.is c.get_dst_line.ensures.in_bounds)

pub returns : goal.returns
returns c = subst (λ ts. All IsInBounds ts) (take_all c.loop-token.token-index c.args.tokens.now c.loop-token-test.false) c.loop-token.invariant
