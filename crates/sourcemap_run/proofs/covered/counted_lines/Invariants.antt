use Rattle.std.proofs.Common.{◌≡◌, ◌++◌}
use Rattle.sourcemap_run.proofs.covered.counted_lines.Given as goal

-- the lines so far, and those that are left, are all
abbrev pub invariant-loop-line : goal.invariant-loop-line
invariant-loop-line l = l.lines.items ++ l.line-iterator ≡ l.totals.entries
