use Rattle.std.proofs.Common.{◌≢◌, ◌<◌, ℕ}
use Rattle.oxc_sourcemap_compiled.specs.Words.{ignored_in}
use Rattle.oxc_sourcemap_compiled.proofs.opened.Opened.has_ignored.Given as goal

abbrev pub invariant-loop-i : goal.invariant-loop-i
invariant-loop-i l = (k : ℕ) → k < l.i → ignored_in l.self.bytes.now l.self.header k ≢ l.id
