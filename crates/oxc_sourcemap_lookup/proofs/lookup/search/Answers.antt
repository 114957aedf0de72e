use Rattle.std.proofs.Common.{refl, ◌∙◌, sym}
use Rattle.oxc_sourcemap_lookup.proofs.Halving.{read-last}
use Rattle.oxc_sourcemap_lookup.proofs.lookup.search.Goals as goal

pub returns-clause-found : goal.returns-clause-found
returns-clause-found c = λ g.
    let answer = read-last c.last.result _ c.args.line.now c.count_through-end.result c.last.ensures.value refl ∙ sym c.copied.ensures in
    sym answer ∙ c.count_through-end.ensures.token g
