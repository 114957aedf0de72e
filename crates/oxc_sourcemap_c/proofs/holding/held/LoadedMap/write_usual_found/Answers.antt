use Rattle.std.proofs.Common.{arith}
use Rattle.oxc_sourcemap_lookup.specs.declared.bias.Bias.TheVariants.{Before}
use Rattle.oxc_sourcemap_c.specs.Traces.{IsFoundAt}
use Rattle.oxc_sourcemap_c.proofs.Filling.{all_zip}
use Rattle.oxc_sourcemap_c.proofs.holding.held.LoadedMap.write_usual_found.Goals as goal

pub returns : goal.returns
returns c = (
  c.requires.index.0.order,
  all_zip (IsFoundAt Before c.args.self.now.map) c.args.positions.now c.loop-i.out (omega arith) (λ k at p below. c.loop-i.invariant k at p (omega arith)),
)
