use Rattle.std.proofs.Common.{arith}
use Rattle.oxc_sourcemap_c.specs.ScopeNumbers.{frame_numbers}
use Rattle.oxc_sourcemap_c.proofs.Buffers.{buffer_filled}
use Rattle.oxc_sourcemap_c.proofs.scopes.asking.write_frames.Goals as goal

pub returns : goal.returns
returns c = buffer_filled (frame_numbers c.args.scopes.now) c.args.frames.now.frames.items c.args.out.now c.loop-i.out c.loop-i.i (omega arith) c.loop-i.invariant.front c.loop-i.invariant.back
