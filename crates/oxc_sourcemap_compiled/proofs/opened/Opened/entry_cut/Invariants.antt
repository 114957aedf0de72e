use Rattle.std.proofs.Common.{◌+◌}
use Rattle.oxc_sourcemap_compiled.specs.Words.{start_in}
use Rattle.oxc_sourcemap_compiled.proofs.Searches.{IsHalved}
use Rattle.oxc_sourcemap_compiled.proofs.opened.Opened.entry_cut.Given as goal

abbrev pub invariant-loop-size : goal.invariant-loop-size
invariant-loop-size l = IsHalved (λ k. start_in l.self.bytes.now (k + 1)) (l.i + 1) 0 l.self.header.lines l.start l.size

abbrev pub decreases-loop-size : goal.decreases-loop-size
decreases-loop-size l = l.size
