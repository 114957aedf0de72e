use Rattle.std.proofs.Common.{◌∙◌, sym, arith}
use Rattle.sourcemap_texts.proofs.LentTexts.{alike_there, alike_no_more, alike_past}
use Rattle.sourcemap_texts.proofs.paths.common_count.Goals as goal

pub loop-count-preserved : goal.loop-count-preserved
loop-count-preserved c =
    let one = alike_there c.args.a.now c.args.b.now c.loop-count.count c.loop-count-test.true c.if-count-b.true (sym c.eq.ensures ∙ c.if-eq.true) in (
      omega (arith, c.loop-count-test.true),
      omega (arith, c.if-count-b.true),
      omega (arith, c.loop-count.invariant.2, one),
    )

pub returns-else-eq : goal.returns-else-eq
returns-else-eq c =
    let none = alike_no_more c.args.a.now c.args.b.now c.loop-count.count c.loop-count-test.true c.if-count-b.true (sym c.eq.ensures ∙ c.if-eq.false) in
    omega (arith, c.loop-count.invariant.2, none)

pub returns-else-count-b : goal.returns-else-count-b
returns-else-count-b c =
    let none = alike_past c.args.a.now c.args.b.now c.loop-count.count c.if-count-b.false in
    omega (arith, c.loop-count.invariant.2, none)
