use Rattle.std.proofs.Common.{◌≡◌, arith, ◌∙◌}
use Rattle.oxc_sourcemap_lookup.specs.Lookup.{index_before}
use Rattle.oxc_sourcemap_lookup.proofs.lookup.search_index.Goals as goal

pub returns-clause-found : goal.returns-clause-found
returns-clause-found c = λ g.
    let back : c.checked_sub.result ≡ index_before c.count_through.result = grind (arith, c.checked_sub.ensures) in
    back ∙ c.count_through.ensures.index g
