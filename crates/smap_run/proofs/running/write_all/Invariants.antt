use Rattle.std.proofs.Common.{◌≡◌, ℕ, ◌++◌, length, List}
use Rattle.std.specs.Io.KnownBytes.{Appends}
use Rattle.smap_run.proofs.running.write_all.Given as goal

abbrev pub invariant-loop-rest : goal.invariant-loop-rest
invariant-loop-rest g l =
    (l.writer.failed ≡ l.initial.writer.failed)
    × ((done : List ℕ) × (done ++ l.rest ≡ l.bytes) × Appends (g.W.Write.contents l.initial.writer.inner) (g.W.Write.contents l.writer.inner) done)

abbrev pub decreases-loop-rest : goal.decreases-loop-rest
decreases-loop-rest g l = length l.rest
