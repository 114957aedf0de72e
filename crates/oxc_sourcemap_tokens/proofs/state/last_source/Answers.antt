use Rattle.std.proofs.Common.{◌-◌, arith, sym, ◌∙◌}
use Rattle.oxc_sourcemap_tokens.specs.Steps.{source_given}
use Rattle.oxc_sourcemap_tokens.proofs.Last.{last-found, last-further}
use Rattle.oxc_sourcemap_tokens.proofs.state.last_source.Goals as goal

pub returns-then-is_some : goal.returns-then-is_some
returns-then-is_some c =
    let l = c.loop-left in
    last-found source_given c.args.tokens.now l.left (l.left - 1) c.index-tokens-left.result c.source_of-source.result (omega (arith, c.loop-left-test.true)) (omega (arith, c.loop-left-test.true, l.invariant.within))
    c.index-tokens-left.is c.source_of-source.ensures l.invariant.rest (sym c.is_some.ensures ∙ c.if-is_some.true)

pub loop-left-preserved : goal.loop-left-preserved
loop-left-preserved c =
    let l = c.loop-left in
    record {
      within = omega (arith, l.invariant.within);
      rest = last-further source_given c.args.tokens.now l.left (l.left - 1) c.index-tokens-left.result c.source_of-source.result (omega (arith, c.loop-left-test.true)) (omega (arith, c.loop-left-test.true, l.invariant.within))
          c.index-tokens-left.is c.source_of-source.ensures l.invariant.rest (sym c.is_some.ensures ∙ c.if-is_some.false);
    }
