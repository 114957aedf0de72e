use Rattle.std.proofs.Common.{ℕ, ◌+◌, ◌<◌, ◌≤◌}
use Rattle.oxc_sourcemap_compiled.specs.Words.{start_in}
use Rattle.oxc_sourcemap_compiled.proofs.opened.Opened.do_lines_follow.Given as goal

abbrev pub invariant-loop-k : goal.invariant-loop-k
invariant-loop-k l = (j : ℕ) → j < l.k → start_in l.self.bytes.now j ≤ start_in l.self.bytes.now (j + 1)
