use Rattle.std.proofs.Common.{◌≡◌, Some, None, IfSome, ◌<◌, length, ap, sym, subst, ◌∙◌, arith}
use Rattle.std.proofs.lemmas.Grind.{common_steps}
use Rattle.std.proofs.lemmas.List.{length-map}
use Rattle.oxc_sourcemap_parts.specs.Sorted.{token_column}
use Rattle.oxc_sourcemap_parts.proofs.Order.{sorted_in_order}
use Rattle.oxc_sourcemap_lookup.specs.Lookup.{index_at, no_column_goes_back}
use Rattle.oxc_sourcemap_lookup.proofs.LineIndices.{from_line, index-some, index-lies}
use Rattle.oxc_sourcemap_lookup.proofs.LineIndices.{index_for-own}
use Rattle.oxc_sourcemap_lookup.proofs.OwnTables.{line_goes_on}
use Rattle.oxc_sourcemap_lookup.proofs.ColumnSearches.{columns-at}
use Rattle.oxc_sourcemap_lookup.proofs.line_index.UsualIndex.lookup_index.Goals as goal

pub returns-in_err-search_index-clause-found : goal.returns-in_err-search_index-clause-found
returns-in_err-search_index-clause-found c = λ sorted.
    let tokens = c.args.tokens.now in
    let line = c.args.line in
    let near = c.line_by_start-start in
    let on = near.ensures.tokens in
    let none : c.search_index.result ≡ None = grind (arith, common_steps) in
    let nothing : c.from_residual.result ≡ None = grind (arith, common_steps) in
    let found = c.search_index.ensures.found near.result.1.now c.columns_at-columns.ensures (ap (no_column_goes_back token_column) on ∙ line_goes_on line tokens sorted) ∙ ap (λ ts. index_at ts c.args.col) on in
    nothing ∙ ap (from_line line tokens) (sym none ∙ found) ∙ index_for-own line c.args.col tokens (sorted_in_order tokens sorted)

pub returns-clause-found : goal.returns-clause-found
returns-clause-found c = λ sorted.
    let tokens = c.args.tokens.now in
    let line = c.args.line in
    let near = c.line_by_start-start in
    let on = near.ensures.tokens in
    let is : c.search_index.result ≡ Some c.in_ok-search_index.field-0 = grind (arith, common_steps) in
    let within = subst (λ n. IfSome c.search_index.result (λ i. i < n)) (ap length c.columns_at-columns.ensures ∙ length-map near.result.1.now token_column) c.search_index.ensures.within in
    let found = c.search_index.ensures.found near.result.1.now c.columns_at-columns.ensures (ap (no_column_goes_back token_column) on ∙ line_goes_on line tokens sorted) ∙ ap (λ ts. index_at ts c.args.col) on in
    index-some line near.result.0 tokens _ on near.ensures.start _ _ is within
    ∙ ap (from_line line tokens) found ∙ index_for-own line c.args.col tokens (sorted_in_order tokens sorted)

pub returns-clause-within : goal.returns-clause-within
returns-clause-within c =
    let near = c.line_by_start-start in
    let is : c.search_index.result ≡ Some c.in_ok-search_index.field-0 = grind (arith, common_steps) in
    let within = subst (λ n. IfSome c.search_index.result (λ i. i < n)) (ap length c.columns_at-columns.ensures ∙ length-map near.result.1.now token_column) c.search_index.ensures.within in
    index-lies c.args.line near.result.0 c.args.tokens.now _ near.ensures.tokens near.ensures.start _ _ is within

pub columns_at-columns-requires : goal.columns_at-columns-requires
columns_at-columns-requires c = columns-at c.line_by_start-start.result.0 c.line_by_start-start.result.1.now c.args.tokens.now c.args.self.columns.now c.requires.1 c.line_by_start-start.ensures.part
