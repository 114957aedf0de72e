use Rattle.std.proofs.Common.{rules, ◌≡◌, arith, ap, ◌∙◌, slice_get}
use Rattle.std.proofs.lemmas.Grind.{common_steps}
use Rattle.std.specs.Option.{option_and_then}
use Rattle.oxc_sourcemap_parts.proofs.Order.{sorted_in_order}
use Rattle.oxc_sourcemap_tokens.specs.Results.{lent_items}
use Rattle.oxc_sourcemap_lookup.specs.Lookup.{index_at, index_for, IfOwnTable}
use Rattle.oxc_sourcemap_lookup.proofs.LineIndices.{own-index, index_for-own}
use Rattle.oxc_sourcemap_lookup.proofs.Numbers.{token_of-index_for}
use Rattle.oxc_sourcemap_map.proofs.maps.sourcemap.SourceMap.lookup_token_index.Goals as goal

pub returns : goal.returns
returns c =
    let line = c.args.line in
    let tokens = c.args.self.now.tokens in
    let same : c.as_slice.result.now ≡ tokens = grind (arith, common_steps) in
    let counted = rw same at c.index_from_line.ensures.found in
    let exact : IfOwnTable tokens (lent_items c.args.lookup_table.now) (c.index_from_line.result ≡ index_for tokens line c.args.col) = λ sorted own.
    own-index (λ on. index_at on c.args.col) _ _ line tokens _ (rw c.slice_of.ensures at c.search_index-index.ensures.found) (rw c.slice_of.ensures at c.search_index-index.ensures.within) counted sorted own
    ∙ index_for-own line c.args.col tokens (sorted_in_order tokens sorted) in
    record {
      own_table = exact;
      token = λ sorted own. ap (option_and_then (slice_get tokens)) (exact sorted own) ∙ token_of-index_for tokens line c.args.col;
      within = search rules;
    }
