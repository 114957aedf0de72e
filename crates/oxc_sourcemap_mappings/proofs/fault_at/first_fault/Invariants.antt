use Rattle.std.proofs.Common.{◌≡◌, ◌+◌, ◌≤◌, length}
use Rattle.std.specs.Result.{result_err}
use Rattle.oxc_sourcemap_mappings.specs.Faults.{counts_of}
use Rattle.oxc_sourcemap_mappings.specs.Reading.{reading}
use Rattle.oxc_sourcemap_mappings.specs.Decoding.{place_of}
use Rattle.oxc_sourcemap_mappings.specs.SegmentPlaces.{fault_place}
use Rattle.oxc_sourcemap_mappings.proofs.FaultPlaces.{rest_place, rest_fault}
use Rattle.oxc_sourcemap_mappings.proofs.fault_at.first_fault.Given as goal

-- the first fault of the text is that of the text that is left
abbrev pub invariant-loop-byte : goal.invariant-loop-byte
invariant-loop-byte l = record {
  place : rest_place (counts_of l.names l.sources) l.place (place_of l.sums) l.rest ≡ fault_place l.text l.names l.sources;
  fault : rest_fault (counts_of l.names l.sources) l.place.line (place_of l.sums) l.rest ≡ result_err (reading l.text l.names l.sources);
  size : l.place.byte + length l.rest ≡ length l.text;
  few : l.place.segment ≤ l.place.byte;
}

abbrev pub decreases-loop-byte : goal.decreases-loop-byte
decreases-loop-byte l = length l.rest
