use Rattle.std.proofs.Common.{◌≡◌, ◌+◌, ◌≤◌, false, length, vec_len}
use Rattle.std.specs.Vec.{vec_capacity}
use Rattle.oxc_sourcemap_mappings.specs.Faults.{counts_of}
use Rattle.oxc_sourcemap_mappings.specs.Reading.{gathered, reading}
use Rattle.oxc_sourcemap_mappings.specs.Decoding.{place_of, segments_after}
use Rattle.oxc_sourcemap_mappings.specs.SegmentPlaces.{fault_place}
use Rattle.oxc_sourcemap_mappings.proofs.FaultPlaces.{IsHere}
use Rattle.oxc_sourcemap_mappings.proofs.Left.{left_outcomes, onto_all}
use Rattle.oxc_sourcemap_mappings.proofs.decode.read_mappings.Given as goal

-- the reading of the whole text, and the place of its first fault, are those of the text that is left, with the tokens so far before it
abbrev pub invariant-loop-byte : goal.invariant-loop-byte
invariant-loop-byte l = record {
  reading : onto_all l.tokens.items (gathered (left_outcomes (counts_of l.names l.sources) l.line (place_of l.sums) l.rest))
      ≡ reading l.text l.names l.sources;
  room : vec_len l.tokens + segments_after false l.rest ≤ vec_capacity l.tokens;
  here : IsHere (counts_of l.names l.sources) l.text (fault_place l.text l.names l.sources) l.rest l.line (vec_len l.tokens) l.before (place_of l.sums);
}

abbrev pub decreases-loop-byte : goal.decreases-loop-byte
decreases-loop-byte l = length l.rest
