use Rattle.std.proofs.Common.{◌≡◌, ◌-◌, arith, ap, sym, ◌∙◌}
use Rattle.std.proofs.lemmas.Grind.{common_steps}
use Rattle.std.specs.Option.{option_or}
use Rattle.oxc_sourcemap_lookup.proofs.Indices.{index-clamped, index_within, clamped-through}
use Rattle.oxc_sourcemap_lookup.proofs.lookup.search_index_clamped.Goals as goal

pub returns-clause-found : goal.returns-clause-found
returns-clause-found c = λ g.
    let line = c.args.line.now in
    let end = c.count_through-end.result in
    let back : c.saturating_sub.result ≡ end - 1 = grind (arith, common_steps) in
    c.index_within.ensures ∙ ap (index_within line) back ∙ clamped-through line end c.count_through-end.ensures.within
    ∙ ap (λ o. option_or o (index_within line 0)) (c.count_through-end.ensures.index g) ∙ sym (index-clamped c.args.col line)
