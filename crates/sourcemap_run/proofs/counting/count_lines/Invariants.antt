use Rattle.std.proofs.Common.{◌≡◌, ℕ, List, take, map, string_bytes}
use Rattle.sourcemap_run.specs.Counts.{count_at, original_count}
use Rattle.sourcemap_run.proofs.counting.count_lines.Given as goal

-- the counts so far are those of the marks so far
abbrev pub invariant-loop-mark : goal.invariant-loop-mark
invariant-loop-mark l = (path : List ℕ) (line : ℕ)
    → count_at l.counts path line ≡ original_count (map string_bytes l.paths) (take l.mark-index l.marks) path line
