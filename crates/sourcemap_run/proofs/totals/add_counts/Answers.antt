use Rattle.std.proofs.Common.{rules, ◌≡◌, ℕ, [], ◌∷◌}
use Rattle.sourcemap_run.specs.Totals.{total_at}
use Rattle.sourcemap_run.proofs.LineCounts.{Key}
use Rattle.sourcemap_run.proofs.Sums.{one_more_count, all_counts}
use Rattle.sourcemap_run.proofs.totals.add_counts.Goals as goal

pub loop-line-preserved : goal.loop-line-preserved
loop-line-preserved c =
    let entry : Key × ℕ = (c.in-Some.line.now, c.in-Some.count.now) in
    let next : c.loop-line.line-iterator ≡ entry ∷ c.next.new.self = search rules in (
      λ path line.
          one_more_count path line (total_at c.loop-line.totals path line) (total_at c.add_count.new.totals path line) _ entry c.loop-line.line-iterator c.next.new.self
          next (c.in_ok-add_count.ensures.0 path line) (c.loop-line.invariant.0 path line),
      λ lined. c.in_ok-add_count.ensures.1 (c.loop-line.invariant.1 lined),
    )

pub returns-clause-added : goal.returns-clause-added
returns-clause-added c =
    let none : c.loop-line.line-iterator ≡ [] = search rules in
    λ path line.
    all_counts c.args.counts.now path line (total_at c.args.totals.now path line) (total_at c.loop-line.totals path line) c.loop-line.line-iterator
    c.into_iter-line-iterator.ensures.into_iter_gives.5 none (c.loop-line.invariant.0 path line)
