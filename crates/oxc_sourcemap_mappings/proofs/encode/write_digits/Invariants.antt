use Rattle.std.proofs.Common.{◌≡◌, ◌+◌, ◌≤◌, ◌++◌, length, take}
use Rattle.oxc_sourcemap_mappings.specs.Canonical.{vlq_text}
use Rattle.oxc_sourcemap_mappings.proofs.encode.write_digits.Given as goal

abbrev pub invariant-loop-rest : goal.invariant-loop-rest
invariant-loop-rest l = record {
  bytes : take l.end l.buf ++ vlq_text l.rest ≡ take l.at l.initial.buf ++ vlq_text l.raw;
  after : l.at ≤ l.end;
  room : l.end + length (vlq_text l.rest) ≤ l.at + 7;
}

abbrev pub decreases-loop-rest : goal.decreases-loop-rest
decreases-loop-rest l = l.rest
