use Rattle.std.proofs.Common.{◌≡◌, take}
use Rattle.std.specs.List.{count_by}
use Rattle.sourcemap_run.specs.Differences.{differ_at}
use Rattle.sourcemap_run.proofs.differing.count_differences.Given as goal

abbrev pub invariant-loop-place : goal.invariant-loop-place
invariant-loop-place l = l.count ≡ count_by (differ_at l.a l.b) (take l.place-index l.places)
