use Rattle.std.proofs.Common.{◌≡◌, ◌+◌, false, length}
use Rattle.oxc_sourcemap_mappings.specs.Decoding.{segments_after}
use Rattle.oxc_sourcemap_mappings.proofs.decode.segment_count.Given as goal

abbrev pub invariant-loop-rest : goal.invariant-loop-rest
invariant-loop-rest l = l.count + segments_after l.is_inside l.rest ≡ segments_after false l.text

abbrev pub decreases-loop-rest : goal.decreases-loop-rest
decreases-loop-rest l = length l.rest
