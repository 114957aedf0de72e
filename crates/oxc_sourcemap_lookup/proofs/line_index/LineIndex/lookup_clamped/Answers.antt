use Rattle.std.proofs.Common.{ap, ◌∙◌}
use Rattle.oxc_sourcemap_parts.specs.Sorted.{token_column}
use Rattle.oxc_sourcemap_lookup.specs.Lookup.{clamped_at, no_column_goes_back}
use Rattle.oxc_sourcemap_lookup.proofs.OwnTables.{line_goes_on}
use Rattle.oxc_sourcemap_lookup.proofs.line_index.LineIndex.lookup_clamped.Goals as goal

pub returns-clause-found : goal.returns-clause-found
returns-clause-found c = λ sorted.
    let e = c.tokens_near.ensures in
    c.search_clamped.ensures.found (ap (no_column_goes_back token_column) e ∙ line_goes_on c.args.line c.args.tokens.now sorted) ∙ ap (λ ts. clamped_at token_column ts c.args.col) e
