use Rattle.std.proofs.Common.{ap, ◌∙◌, ◌≤◌, ◌<◌, ◌==◌, ℕ, get_or, arith}
use Rattle.std.specs.List.{filter}
use Rattle.oxc_sourcemap_map.specs.Places.{token_original, no_token}
use Rattle.oxc_sourcemap_map.proofs.Passing.{on_line_found}
use Rattle.oxc_sourcemap_map.proofs.reverse.source_order.SourceOrder.bounds_on.Goals as goal

pub returns-clause-all : goal.returns-clause-all
returns-clause-all c = λ i t lt into.
    let start = c.original_number-start.result in
    on_line_found (λ k. (c.bounds_of.result.0 ≤ k) × (k < c.bounds_of.result.1)) c.args.source_id c.args.line start c.args.tokens.now c.between-found.result.now (omega (arith, c.ranges.line)) c.original_number-start.ensures.value
    c.requires.in_bounds c.bounds_of.ensures.all
    (λ place low high. c.between-found.ensures.each_index place low high ∙ ap (filter (λ i. token_original (get_or c.args.tokens.now i no_token) == place)) c.as_slice.ensures.value ∙ c.requires.each_index place)
    i t lt into

pub returns-clause-within : goal.returns-clause-within
returns-clause-within c = c.bounds_of.ensures.end _ c.between-found.ensures.within
