use Rattle.std.proofs.Common.{◌≡◌, ◌++◌, drop}
use Rattle.std.specs.List.{filter}
use Rattle.sourcemap_run.specs.Counts.{is_missed}
use Rattle.sourcemap_run.proofs.covered.missed_lines.Given as goal

-- the missed lines so far, and those of the lines that are left, are all
abbrev pub invariant-loop-line : goal.invariant-loop-line
invariant-loop-line l = l.missed.items ++ filter is_missed (drop l.line-index l.lines) ≡ filter is_missed l.lines
