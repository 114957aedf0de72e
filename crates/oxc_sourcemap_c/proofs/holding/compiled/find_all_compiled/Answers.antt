use Rattle.std.proofs.Common.{arith, ap, ◌∙◌}
use Rattle.oxc_sourcemap_compiled.specs.Words.{header_in, IsOnLine}
use Rattle.oxc_sourcemap_compiled.proofs.Zips.{written-more}
use Rattle.oxc_sourcemap_c.specs.Structs.{index_number}
use Rattle.oxc_sourcemap_c.proofs.Shown.{numbered}
use Rattle.oxc_sourcemap_c.specs.CompiledTraces.{IsCompiledIndex}
use Rattle.oxc_sourcemap_c.proofs.Filling.{all_zip}
use Rattle.oxc_sourcemap_c.proofs.holding.compiled.find_all_compiled.Goals as goal

pub loop-i-preserved : goal.loop-i-preserved
loop-i-preserved c =
    let bytes = c.args.map.now in
    let among = numbered (IsOnLine bytes (header_in bytes) _) c.find_index.result c.index_or_none.result c.index_or_none.ensures c.find_index.ensures.among in
    written-more (IsCompiledIndex c.args.bias bytes) c.args.positions.now c.loop-i.out c.loop-i.i _ c.index_or_none.result (omega arith) (omega arith) c.loop-i.invariant (record { is = λ order. c.index_or_none.ensures ∙ ap index_number (c.find_index.ensures.found order); among = among })

pub returns : goal.returns
returns c = all_zip (IsCompiledIndex c.args.bias c.args.map.now) c.args.positions.now c.loop-i.out (omega arith) (λ k at p below. c.loop-i.invariant k at p (omega arith))
