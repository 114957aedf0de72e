use Rattle.std.proofs.Common.{◌≡◌, Some, None, ap, sym, ◌∙◌, arith}
use Rattle.std.proofs.lemmas.Grind.{common_steps}
use Rattle.oxc_sourcemap_parts.specs.Sorted.{token_column}
use Rattle.oxc_sourcemap_parts.proofs.Order.{sorted_in_order}
use Rattle.oxc_sourcemap_lookup.specs.Lookup.{index_at, no_column_goes_back}
use Rattle.oxc_sourcemap_lookup.proofs.LineIndices.{from_line, index-some, index-lies}
use Rattle.oxc_sourcemap_lookup.proofs.LineIndices.{index_for-own}
use Rattle.oxc_sourcemap_lookup.proofs.OwnTables.{line_goes_on}
use Rattle.oxc_sourcemap_lookup.proofs.line_index.LineIndex.lookup_index.Goals as goal

pub returns-in_err-search_at-clause-found : goal.returns-in_err-search_at-clause-found
returns-in_err-search_at-clause-found c = λ sorted.
    let tokens = c.args.tokens.now in
    let line = c.args.line in
    let on = c.line_near-start.ensures.tokens in
    let none : c.search_at.result ≡ None = grind (arith, common_steps) in
    let nothing : c.from_residual.result ≡ None = grind (arith, common_steps) in
    let found = c.search_at.ensures.found (ap (no_column_goes_back token_column) on ∙ line_goes_on line tokens sorted) ∙ ap (λ ts. index_at ts c.args.col) on in
    nothing ∙ ap (from_line line tokens) (sym none ∙ found) ∙ index_for-own line c.args.col tokens (sorted_in_order tokens sorted)

pub returns-clause-found : goal.returns-clause-found
returns-clause-found c = λ sorted.
    let tokens = c.args.tokens.now in
    let line = c.args.line in
    let near = c.line_near-start in
    let is : c.search_at.result ≡ Some c.in_ok-search_at.field-0 = grind (arith, common_steps) in
    let found = c.search_at.ensures.found (ap (no_column_goes_back token_column) near.ensures.tokens ∙ line_goes_on line tokens sorted) ∙ ap (λ ts. index_at ts c.args.col) near.ensures.tokens in
    index-some line near.result.0 tokens _ near.ensures.tokens near.ensures.start _ _ is c.search_at.ensures.within
    ∙ ap (from_line line tokens) found ∙ index_for-own line c.args.col tokens (sorted_in_order tokens sorted)

pub returns-clause-within : goal.returns-clause-within
returns-clause-within c =
    let near = c.line_near-start in
    let is : c.search_at.result ≡ Some c.in_ok-search_at.field-0 = grind (arith, common_steps) in
    index-lies c.args.line near.result.0 c.args.tokens.now _ near.ensures.tokens near.ensures.start _ _ is c.search_at.ensures.within
