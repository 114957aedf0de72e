use Rattle.std.proofs.Common.{arith}
use Rattle.oxc_sourcemap_compiled.proofs.Zips.{written-more}
use Rattle.oxc_sourcemap_c.specs.CompiledTraces.{IsCompiledTrace}
use Rattle.oxc_sourcemap_c.proofs.Filling.{all_zip}
use Rattle.oxc_sourcemap_c.proofs.holding.compiled.trace_all_compiled.Goals as goal

pub loop-i-preserved : goal.loop-i-preserved
loop-i-preserved c =
    written-more (IsCompiledTrace c.args.bias c.args.map.now) c.args.positions.now c.loop-i.out c.loop-i.i _ c.trace_compiled.new.out (omega arith) (omega arith) c.loop-i.invariant c.trace_compiled.ensures

pub returns : goal.returns
returns c = all_zip (IsCompiledTrace c.args.bias c.args.map.now) c.args.positions.now c.loop-i.out (omega arith) (λ k at p below. c.loop-i.invariant k at p (omega arith))
