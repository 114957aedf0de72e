use Rattle.std.proofs.Common.{◌≡◌, subst, arith}
use Rattle.oxc_sourcemap_tokens.specs.Token.{AreInBounds}
use Rattle.oxc_sourcemap_map.proofs.Lines.{all_of_line}
use Rattle.oxc_sourcemap_map.proofs.reverse.source_index.SourceIndex.pointing_to.Goals as goal

pub returns : goal.returns
returns c =
    let same : c.self.inside.tokens.now ≡ c.args.self.now = cc (c.self.view_is) in
    all_of_line c.args.source_id c.args.line c.original_number-start.result _ c.between.result (omega (arith, c.ranges.line)) c.original_number-start.ensures.value
    (subst (λ ts. AreInBounds ts) same c.self.invariant.in_bounds) c.between.ensures.in_bounds c.between.ensures.only c.between.ensures.rises c.between.ensures.each
