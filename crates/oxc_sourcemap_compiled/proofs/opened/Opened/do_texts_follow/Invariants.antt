use Rattle.std.proofs.Common.{ℕ, ◌+◌, ◌<◌, ◌≤◌}
use Rattle.oxc_sourcemap_compiled.specs.Words.{offset_in}
use Rattle.oxc_sourcemap_compiled.proofs.opened.Opened.do_texts_follow.Given as goal

abbrev pub invariant-loop-t : goal.invariant-loop-t
invariant-loop-t l = (j : ℕ) → j < l.t → offset_in l.self.bytes.now l.self.header j ≤ offset_in l.self.bytes.now l.self.header (j + 1)
