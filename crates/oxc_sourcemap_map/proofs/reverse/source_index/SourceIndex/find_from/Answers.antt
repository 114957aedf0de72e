use Rattle.std.proofs.Common.{ap, length, arith}
use Rattle.oxc_sourcemap_lookup.proofs.Halving.{fewer-digits}
use Rattle.oxc_sourcemap_map.proofs.reverse.source_index.SourceIndex.find_from.Goals as goal

pub returns-clause-counted : goal.returns-clause-counted
returns-clause-counted c = omega (arith, c.find_from.ensures.counted, fewer-digits (length c.as_slice.result.now) (length c.args.self.now) (omega (arith, ap length c.as_slice.ensures.value, c.self.invariant.fewer, ap length c.self.view_is)))
