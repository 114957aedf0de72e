use Rattle.std.proofs.Common.{◌≡◌, true, false, ltb, nat_lt, get_or, arith, rules}
use Rattle.std.proofs.lemmas.List.Sorted.{IsPartitionPoint-from_clause, IsPartitionedBy-ltb}
use Rattle.oxc_sourcemap_lookup.proofs.LineSpans.{do_not_fall}
use Rattle.oxc_sourcemap_lookup.proofs.line_index.count_lines_before.Goals as goal

pub returns-clause-before : goal.returns-clause-before
returns-clause-before c = λ k d h.
    let parted = IsPartitionedBy-ltb (λ span. span.line) _ c.args.line (do_not_fall _ c.requires) in
    let point = IsPartitionPoint-from_clause (λ span. ltb span.line c.args.line) _ _ c.partition_point.ensures.partitioned parted (λ a r q k. search rules) in
    let is : nat_lt (get_or c.args.spans.now k d).line c.args.line ≡ true = point.0 k d (omega arith) h in
    grind (arith, is)

pub returns-clause-others : goal.returns-clause-others
returns-clause-others c = λ k d h w.
    let parted = IsPartitionedBy-ltb (λ span. span.line) _ c.args.line (do_not_fall _ c.requires) in
    let point = IsPartitionPoint-from_clause (λ span. ltb span.line c.args.line) _ _ c.partition_point.ensures.partitioned parted (λ a r q k. search rules) in
    let is : nat_lt (get_or c.args.spans.now k d).line c.args.line ≡ false = point.1 k d h w in
    grind (arith, is)
