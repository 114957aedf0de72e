use Rattle.std.proofs.Common.{◌≡◌, ℕ, List, ◌+◌, ◌++◌, ◌≤◌, drop}
use Rattle.oxc_sourcemap_mappings.specs.Decoding.{segments_after}
use Rattle.oxc_sourcemap_mappings.proofs.decode.segments_in_block.Given as goal

abbrev pub invariant-loop-byte : goal.invariant-loop-byte
invariant-loop-byte l = record {
  count : (rest : List ℕ) → segments_after l.initial.is_inside (l.block ++ rest) ≡ l.count + segments_after l.is_inside (drop l.byte-index l.block ++ rest);
  few : l.count ≤ l.byte-index;
}
