use Rattle.std.proofs.Common.{◌≡◌, ◌+◌, ◌≤◌, ℕ, length, drop, get_or}
use Rattle.std.specs.List.{sum}
use Rattle.sourcemap_run.specs.Sizes.{lengths_from, lengths_of, bytes_at}
use Rattle.sourcemap_run.proofs.sizes.sizes_of.Given as goal

-- the bytes in front of `from` are added, and each slot has what it gets of them
abbrev pub invariant-loop-start : goal.invariant-loop-start
invariant-loop-start l =
    (l.from ≤ l.len) × (length l.sizes.items ≡ l.count + 1) × (sum l.sizes.items ≡ l.from)
    × ((slot : ℕ) → get_or l.sizes.items slot 0 + bytes_at l.count (lengths_from l.len l.from l.source (drop l.start-index l.starts)) slot ≡ bytes_at l.count (lengths_of l.len l.starts) slot)
