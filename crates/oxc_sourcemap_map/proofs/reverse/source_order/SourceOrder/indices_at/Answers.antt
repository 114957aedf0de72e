use Rattle.std.proofs.Common.{ap, ◌∙◌, ◌==◌, get_or, arith}
use Rattle.std.specs.List.{filter}
use Rattle.oxc_sourcemap_map.specs.Places.{token_original, no_token}
use Rattle.oxc_sourcemap_map.proofs.Passing.{exact_indices}
use Rattle.oxc_sourcemap_map.proofs.reverse.source_order.SourceOrder.indices_at.Goals as goal

pub returns : goal.returns
returns c =
    let place = c.original_number-place.result in
    exact_indices c.args.source_id c.args.line c.args.col place c.args.tokens.now c.between.result.now (omega (arith, c.ranges.line)) (omega (arith, c.ranges.col)) c.original_number-place.ensures.value
    c.requires.in_bounds c.between.ensures.only
    (c.between.ensures.each_index place (omega arith) (omega arith) ∙ ap (filter (λ i. token_original (get_or c.args.tokens.now i no_token) == place)) c.as_slice.ensures.value ∙ c.requires.each_index place)
