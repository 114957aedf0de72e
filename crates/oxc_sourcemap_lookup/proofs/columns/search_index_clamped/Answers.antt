use Rattle.std.proofs.Common.{◌≡◌, ◌-◌, length, nat_lt, Some, None, if◌then◌else◌, arith, ap, sym}
use Rattle.std.proofs.Common.{◌∙◌}
use Rattle.std.proofs.lemmas.Grind.{common_steps}
use Rattle.std.proofs.lemmas.List.{length-map}
use Rattle.std.specs.Option.{option_or}
use Rattle.oxc_sourcemap_parts.specs.Sorted.{token_column}
use Rattle.oxc_sourcemap_lookup.proofs.Indices.{index-clamped, index_within, clamped-through}
use Rattle.oxc_sourcemap_lookup.proofs.columns.search_index_clamped.Goals as goal

pub returns-clause-found : goal.returns-clause-found
returns-clause-found c = λ line is g.
    let end = c.count_through-end.result in
    let i = c.saturating_sub.result in
    let total : length c.args.columns.now ≡ length line = ap length is ∙ length-map line token_column in
    let back : i ≡ end - 1 = grind (arith, common_steps) in
    c.index_within.ensures ∙ ap (λ m. if nat_lt i m then Some i else None) total ∙ ap (index_within line) back
    ∙ clamped-through line end (omega (arith, c.count_through-end.ensures.within, total))
    ∙ ap (λ o. option_or o (index_within line 0)) (c.count_through-end.ensures.index line is g) ∙ sym (index-clamped c.args.col line)
