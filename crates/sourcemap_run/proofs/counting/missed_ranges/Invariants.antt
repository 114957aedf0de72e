use Rattle.std.proofs.Common.{◌≡◌, ◌++◌, drop}
use Rattle.sourcemap_run.specs.Counts.{missed_ranges}
use Rattle.sourcemap_run.proofs.MissedRanges.{left}
use Rattle.sourcemap_run.proofs.counting.missed_ranges.Given as goal

-- the ranges so far, and those of the lines that are left, are those of all lines
abbrev pub invariant-loop-line : goal.invariant-loop-line
invariant-loop-line l = l.ranges.items ++ left l.range (drop l.line-index l.lines) ≡ missed_ranges l.lines
