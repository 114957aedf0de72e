use Rattle.std.proofs.Common.{◌+◌, ◌≤◌, refl, arith}
use Rattle.oxc_sourcemap_compiled.proofs.Packings.{widened}
use Rattle.oxc_sourcemap_compiled.proofs.writing.blocks.block_of.Goals as goal

pub returns-clause-packed : goal.returns-clause-packed
returns-clause-packed c =
    let name = c.packing_of-5.result in
    record {
      column = c.packing_of.ensures;
      source = c.packing_of-2.ensures;
      src_line = c.packing_of-3.ensures;
      src_col = c.packing_of-4.ensures;
      name = widened 4 4 0 c.args.tokens.now name name c.packing_of-5.ensures refl (omega arith) (omega arith) (omega (arith, c.packing_of-5.ensures.width));
    }
