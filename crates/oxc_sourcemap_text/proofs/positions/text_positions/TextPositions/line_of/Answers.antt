use Rattle.std.proofs.Common.{◌≡◌, leb, arith, rules}
use Rattle.std.proofs.lemmas.List.Sorted.{IsPartitionPoint-from_clause, IsPartitionedBy-leb}
use Rattle.oxc_sourcemap_text.specs.TextLines.{units_of, text_lines}
use Rattle.oxc_sourcemap_text.specs.Scans.{starts_from}
use Rattle.oxc_sourcemap_text.proofs.Starts.{lines-some}
use Rattle.oxc_sourcemap_text.proofs.Calls.{starts-order, line-found}
use Rattle.oxc_sourcemap_text.proofs.positions.text_positions.TextPositions.line_of.Goals as goal

pub overflow_sub-result : goal.overflow_sub-result
overflow_sub-result c =
    let lines = text_lines c.args.self.now in
    let starts = c.deref.result.now in
    let is : starts ≡ starts_from 0 lines = cc in
    let parted = IsPartitionedBy-leb (λ y. y) starts c.args.offset (starts-order lines starts is) in
    let point = IsPartitionPoint-from_clause (λ y. leb y c.args.offset) _ _ c.partition_point.ensures.partitioned parted (λ a r q k. search rules) in
    (line-found lines c.args.offset c.partition_point.result starts is (lines-some (units_of c.args.self.now)) c.partition_point.ensures.bound
    (λ k h. point.0 k 0 (omega arith) h) (λ k h i. point.1 k 0 h i)).0

pub returns-clause-line : goal.returns-clause-line
returns-clause-line c =
    let lines = text_lines c.args.self.now in
    let starts = c.deref.result.now in
    let is : starts ≡ starts_from 0 lines = cc in
    let parted = IsPartitionedBy-leb (λ y. y) starts c.args.offset (starts-order lines starts is) in
    let point = IsPartitionPoint-from_clause (λ y. leb y c.args.offset) _ _ c.partition_point.ensures.partitioned parted (λ a r q k. search rules) in
    (line-found lines c.args.offset c.partition_point.result starts is (lines-some (units_of c.args.self.now)) c.partition_point.ensures.bound
    (λ k h. point.0 k 0 (omega arith) h) (λ k h i. point.1 k 0 h i)).1

pub returns-clause-within : goal.returns-clause-within
returns-clause-within c =
    let lines = text_lines c.args.self.now in
    let starts = c.deref.result.now in
    let is : starts ≡ starts_from 0 lines = cc in
    let parted = IsPartitionedBy-leb (λ y. y) starts c.args.offset (starts-order lines starts is) in
    let point = IsPartitionPoint-from_clause (λ y. leb y c.args.offset) _ _ c.partition_point.ensures.partitioned parted (λ a r q k. search rules) in
    (line-found lines c.args.offset c.partition_point.result starts is (lines-some (units_of c.args.self.now)) c.partition_point.ensures.bound
    (λ k h. point.0 k 0 (omega arith) h) (λ k h i. point.1 k 0 h i)).2
