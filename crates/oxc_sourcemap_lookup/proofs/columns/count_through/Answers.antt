use Rattle.std.proofs.Common.{◌≡◌, ◌+◌, ◌-◌, ◌<◌, map, take, length, get_or, nat_lt, ◌∙◌, ap, arith}
use Rattle.std.proofs.Common.{if◌then◌else◌}
use Rattle.std.proofs.lemmas.Grind.{common_steps}
use Rattle.std.proofs.lemmas.List.{length-map, take-map}
use Rattle.oxc_sourcemap_parts.specs.Sorted.{token_column}
use Rattle.oxc_sourcemap_lookup.specs.Lookup.{index_before}
use Rattle.oxc_sourcemap_lookup.proofs.Halving.{before, front-goes_on}
use Rattle.oxc_sourcemap_lookup.proofs.ColumnSearches.{index-through}
use Rattle.oxc_sourcemap_lookup.proofs.columns.count_through.Goals as goal

pub returns-clause-index : goal.returns-clause-index
returns-clause-index c = λ line is g.
    let columns = c.args.columns.now in
    let col = c.args.col in
    let last = length line - 1 in
    let n = c.count_before-before.result in
    let total : length columns ≡ length line = ap length is ∙ length-map line token_column in
    let part : take (length columns - 1) columns ≡ map token_column (take last line) = ap (λ m. take (m - 1) columns) total ∙ ap (take last) is ∙ take-map token_column last line in
    let within : n < length line = grind (arith, common_steps, total) in
    let count = c.count_before-before.ensures.count (take last line) part (front-goes_on last line g) ∙ ap (λ k. before k (take last line)) c.from.ensures in
    let more : c.from-2.result ≡ (if nat_lt (get_or columns n 0) (col + 1) then 1 else 0) = grind (arith, common_steps) in
    ap (λ k. index_before (n + k)) more ∙ index-through col n columns line is g within count
