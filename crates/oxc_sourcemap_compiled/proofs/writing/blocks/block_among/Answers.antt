use Rattle.std.proofs.Common.{◌+◌, ◌-◌, ◌%◌, ◌≤◌, arith}
use Rattle.oxc_sourcemap_compiled.proofs.Packings.{widened}
use Rattle.oxc_sourcemap_compiled.proofs.writing.blocks.block_among.Goals as goal

pub returns : goal.returns
returns c =
    let packed = c.block_of-block.ensures.packed in
    record {
      column = packed.column;
      source = packed.source;
      src_line = packed.src_line;
      src_col = packed.src_col;
      name = widened 4 4 (7 - (c.stride.result + 7) % 8) c.args.tokens.now c.block_of-block.result.name c.widened.result c.block_of-block.ensures.name c.widened.ensures.least c.widened.ensures.width
          (omega (arith, c.if-spare-gt4.false)) (omega (arith, c.widened.ensures.width, c.if-from-spare-gt32.false, c.from.ensures));
    }
