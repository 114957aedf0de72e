use Rattle.std.proofs.Common.{◌≡◌, ◌≤◌, length, true, false, ltb, nat_lt, get_or, arith, rules}
use Rattle.std.proofs.lemmas.List.Sorted.{IsPartitionPoint-from_clause, IsPartitionedBy-ltb}
use Rattle.oxc_sourcemap_parts.specs.Sorted.{token_line}
use Rattle.oxc_sourcemap_parts.proofs.Order.{sorted_in_order}
use Rattle.oxc_sourcemap_lookup.proofs.LineIndices.{lines-rise, start-counts}
use Rattle.oxc_sourcemap_compiled.proofs.writing.lines.tokens_before.Goals as goal

pub returns-clause-value : goal.returns-clause-value
returns-clause-value c =
    let tokens = c.args.tokens.now in
    let line = c.args.line in
    let parted = IsPartitionedBy-ltb token_line tokens line (lines-rise tokens (sorted_in_order tokens c.requires)) in
    let point = IsPartitionPoint-from_clause (λ t. ltb (token_line t) line) tokens _ c.partition_point.ensures.partitioned parted (λ a r q k. search rules) in
    let within : c.partition_point.result ≤ length tokens = search rules in
    start-counts line _ tokens within
    (λ k d h. let is : nat_lt (token_line (get_or tokens k d)) line ≡ true = point.0 k d (omega (arith, h, within)) h in grind (arith, is))
    (λ k d h w. let is : nat_lt (token_line (get_or tokens k d)) line ≡ false = point.1 k d h w in grind (arith, is))
