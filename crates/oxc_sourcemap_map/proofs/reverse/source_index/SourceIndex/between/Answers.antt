use Rattle.std.proofs.Common.{sym, ap, subst, length, arith}
use Rattle.std.specs.List.Sorted.{IsNonDecreasingBy}
use Rattle.oxc_sourcemap_lookup.proofs.Halving.{fewer-digits}
use Rattle.oxc_sourcemap_tokens.specs.Token.{AreInBounds}
use Rattle.oxc_sourcemap_map.specs.Places.{token_original}
use Rattle.oxc_sourcemap_map.proofs.reverse.source_index.SourceIndex.between.Goals as goal

pub returns-clause-rises : goal.returns-clause-rises
returns-clause-rises c = subst (λ xs. IsNonDecreasingBy token_original xs) (sym c.new.ensures) c.between-found.ensures.rises

pub returns-clause-counted : goal.returns-clause-counted
returns-clause-counted c = omega (arith, c.between-found.ensures.counted, fewer-digits (length c.as_slice.result.now) (length c.args.self.now) (omega (arith, ap length c.as_slice.ensures.value, c.self.invariant.fewer, ap length c.self.view_is)))

pub returns-clause-in_bounds : goal.returns-clause-in_bounds
returns-clause-in_bounds c = subst (λ xs. AreInBounds xs) (sym c.new.ensures) c.between-found.ensures.in_bounds
