use Rattle.std.proofs.Common.{◌≡◌, subst, arith}
use Rattle.oxc_sourcemap_tokens.specs.Token.{AreInBounds}
use Rattle.oxc_sourcemap_map.proofs.Lines.{exactly_there}
use Rattle.oxc_sourcemap_map.proofs.reverse.source_index.SourceIndex.search_at.Goals as goal

pub returns-clause-found : goal.returns-clause-found
returns-clause-found c =
    let same : c.self.inside.tokens.now ≡ c.args.self.now = cc (c.self.view_is) in
    exactly_there c.args.source_id c.args.line c.args.col c.original_number-place.result _ c.between.result (omega (arith, c.ranges.line)) (omega (arith, c.ranges.col)) c.original_number-place.ensures.value
    (subst (λ ts. AreInBounds ts) same c.self.invariant.in_bounds) c.between.ensures.only (c.between.ensures.each c.original_number-place.result (omega arith) (omega arith))
