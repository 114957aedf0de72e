use Rattle.std.proofs.Common.{◌≡◌, map}
use Rattle.sourcemap_run.specs.Sizes.{source_of}
use Rattle.sourcemap_run.proofs.sizes.starts_of.Given as goal

-- the sources so far are those of the pieces so far
abbrev pub invariant-loop-piece : goal.invariant-loop-piece
invariant-loop-piece l = map (λ s. s.source) l.starts.items ≡ map source_of l.yielded
