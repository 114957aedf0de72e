use Rattle.std.proofs.Common.{arith}
use Rattle.oxc_sourcemap_c.specs.ScopeNumbers.{chain_entry_numbers}
use Rattle.oxc_sourcemap_c.proofs.Buffers.{buffer_filled}
use Rattle.oxc_sourcemap_c.proofs.scopes.chains.write_chain.Goals as goal

pub returns : goal.returns
returns c = buffer_filled chain_entry_numbers c.args.chain.now c.args.out.now c.loop-i.out c.loop-i.i (omega arith) c.loop-i.invariant.front c.loop-i.invariant.back
