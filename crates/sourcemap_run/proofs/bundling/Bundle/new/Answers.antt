use Rattle.std.proofs.Common.{inl, refl}
use Rattle.sourcemap_run.proofs.Standing.{stands-nowhere}
use Rattle.sourcemap_run.proofs.bundling.Bundle.new.Goals as goal

pub invariant_of-result : goal.invariant_of-result
invariant_of-result c = rw c.new.ensures.bytes (record { ends = inl refl; stands = stands-nowhere })
