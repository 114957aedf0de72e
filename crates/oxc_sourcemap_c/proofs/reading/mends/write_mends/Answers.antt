use Rattle.std.proofs.Common.{arith}
use Rattle.oxc_sourcemap_c.specs.Mends.{numbers_of_mend}
use Rattle.oxc_sourcemap_c.proofs.Buffers.{buffer_filled}
use Rattle.oxc_sourcemap_c.proofs.reading.mends.write_mends.Goals as goal

pub returns : goal.returns
returns c = buffer_filled numbers_of_mend c.args.mends.now c.args.out.now c.loop-i.out c.loop-i.i (omega arith) c.loop-i.invariant.front c.loop-i.invariant.back
