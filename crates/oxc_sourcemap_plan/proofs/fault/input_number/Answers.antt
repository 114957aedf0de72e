use Rattle.std.proofs.Common.{sym, ◌∙◌, arith}
use Rattle.std.specs.Cmp.Lexicographic.{same_text, other_text}
use Rattle.oxc_sourcemap_plan.proofs.Numbered.{number_here, number_later, number_none}
use Rattle.oxc_sourcemap_plan.proofs.fault.input_number.Goals as goal

pub returns-then-eq : goal.returns-then-eq
returns-then-eq c =
    sym (number_here c.args.inputs.now c.loop-k.k _ c.args.text.now c.loop-k-test.true c.loop-k.invariant (same_text _ _ (sym c.if-eq.true ∙ c.eq.ensures)))

pub loop-k-preserved : goal.loop-k-preserved
loop-k-preserved c =
    number_later c.args.inputs.now c.loop-k.k _ c.args.text.now c.loop-k-test.true c.loop-k.invariant (other_text _ _ (sym c.if-eq.false ∙ c.eq.ensures))

pub returns : goal.returns
returns c = sym (number_none c.args.inputs.now c.loop-k.k c.args.text.now c.loop-k.invariant (let f = c.loop-k-test.false in omega (arith, f)))
