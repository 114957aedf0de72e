use Rattle.std.proofs.Common.{◌≡◌, ◌≤◌, length, true, false, ltb, nat_lt, get_or, arith, rules}
use Rattle.std.proofs.lemmas.List.Sorted.{IsPartitionPoint-from_clause, IsPartitionedBy-ltb}
use Rattle.oxc_sourcemap_queries.specs.Cuts.{token_position, no_token}
use Rattle.oxc_sourcemap_queries.proofs.Order.{places-rise}
use Rattle.oxc_sourcemap_queries.proofs.pieces.cuts.count_before.Goals as goal

pub returns-clause-start : goal.returns-clause-start
returns-clause-start c = λ sorted bounds.
    let tokens = c.args.tokens.now in
    let p = c.args.place in
    let parted = IsPartitionedBy-ltb token_position tokens p (places-rise tokens sorted bounds) in
    let point = IsPartitionPoint-from_clause (λ t. ltb (token_position t) p) tokens _ c.partition_point.ensures.partitioned parted (λ a r q k. search rules) in
    let within : c.partition_point.result ≤ length tokens = search rules in record {
      within = within;
      before = λ i h. (let is : nat_lt (token_position (get_or tokens i no_token)) p ≡ true = point.0 i no_token (omega (arith, h, within)) h in grind (arith, is));
      others = λ i h w. (let is : nat_lt (token_position (get_or tokens i no_token)) p ≡ false = point.1 i no_token h w in grind (arith, is));
    }
