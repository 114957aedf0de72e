use Rattle.std.proofs.Common.{◌∙◌, sym, arith}
use Rattle.oxc_sourcemap_text.proofs.Cuts.{before-none, cut-further, cut-here, cut-nowhere}
use Rattle.oxc_sourcemap_text.proofs.positions.text_lines.first_line_len.Goals as goal

pub loop-i-init : goal.loop-i-init
loop-i-init c = before-none c.args.units.now

pub returns-then-is_line_end-clause-cut : goal.returns-then-is_line_end-clause-cut
returns-then-is_line_end-clause-cut c =
    sym c.loop-i.invariant ∙ cut-here c.args.units.now c.loop-i.i c.loop-i-test.true (sym c.is_line_end.ensures ∙ c.if-is_line_end.true)

pub loop-i-preserved : goal.loop-i-preserved
loop-i-preserved c =
    sym (cut-further c.args.units.now c.loop-i.i c.loop-i-test.true (sym c.is_line_end.ensures ∙ c.if-is_line_end.false)) ∙ c.loop-i.invariant

pub returns-clause-last : goal.returns-clause-last
returns-clause-last c = λ _. sym c.loop-i.invariant ∙ cut-nowhere c.args.units.now c.loop-i.i (omega arith)
