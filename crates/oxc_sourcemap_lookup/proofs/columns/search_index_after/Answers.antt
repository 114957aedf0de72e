use Rattle.std.proofs.Common.{◌≡◌, ◌+◌, ◌<◌, length, get_or, nat_lt, drop, ◌∙◌, ap, arith}
use Rattle.std.proofs.Common.{if◌then◌else◌, Some, None}
use Rattle.std.proofs.lemmas.Grind.{common_steps}
use Rattle.std.proofs.lemmas.List.{length-map}
use Rattle.oxc_sourcemap_parts.specs.Sorted.{token_column}
use Rattle.oxc_sourcemap_lookup.proofs.Halving.{before, drop-goes_on}
use Rattle.oxc_sourcemap_lookup.proofs.Indices.{index_within}
use Rattle.oxc_sourcemap_lookup.proofs.ColumnSearches.{rest-columns, after-through}
use Rattle.oxc_sourcemap_lookup.proofs.columns.search_index_after.Goals as goal

pub returns-clause-found : goal.returns-clause-found
returns-clause-found c = λ line is g.
    let columns = c.args.columns.now in
    let col = c.args.col in
    let n = c.count_before-last.result in
    let i = n + c.from-2.result in
    let total : length columns ≡ length line = ap length is ∙ length-map line token_column in
    let within : n < length line = grind (arith, common_steps, total) in
    let count = c.count_before-last.ensures.count (drop 1 line) (rest-columns columns line is) (drop-goes_on line g) ∙ ap (λ k. before (k + 1) (drop 1 line)) c.from.ensures in
    let more : c.from-2.result ≡ (if nat_lt (get_or columns n 0) col then 1 else 0) = grind (arith, common_steps) in
    c.index_within.ensures ∙ ap (λ m. if nat_lt i m then Some i else None) total ∙ ap (λ k. index_within line (n + k)) more
    ∙ after-through col n columns line is g within count
