use Rattle.std.proofs.Common.{◌≡◌, ℕ, List}
use Rattle.sourcemap_run.specs.Totals.{with_counts, total_at, HaveLines}
use Rattle.sourcemap_run.proofs.LineCounts.{counts_of}
use Rattle.sourcemap_run.proofs.totals.add_counts.Given as goal

-- the totals so far, with the counts that are left, are those of all counts
abbrev pub invariant-loop-line : goal.invariant-loop-line
invariant-loop-line l =
    ((path : List ℕ) (line : ℕ) → with_counts (total_at l.totals path line) (counts_of path line l.line-iterator)
    ≡ with_counts (total_at l.fn.totals path line) (counts_of path line l.counts.entries))
    × (HaveLines l.fn.totals → HaveLines l.totals)
