use Rattle.std.proofs.Common.{arith}
use Rattle.oxc_sourcemap_c.specs.Traces.{IsFoundAt}
use Rattle.oxc_sourcemap_c.proofs.Filling.{all_zip}
use Rattle.oxc_sourcemap_c.proofs.Traced.{index_order}
use Rattle.oxc_sourcemap_c.proofs.holding.held.LoadedMap.write_found.Goals as goal

pub returns : goal.returns
returns c = (
  index_order c.args.self.now.map.tokens c.args.index.now c.requires.index,
  all_zip (IsFoundAt c.args.bias c.args.self.now.map) c.args.positions.now c.loop-i.out (omega arith) (λ k at p below. c.loop-i.invariant k at p (omega arith)),
)
