use Rattle.std.proofs.Common.{◌≡◌, ◌++◌, ℕ, codes, drop, string_bytes}
use Rattle.std.specs.List.{flat_map}
use Rattle.oxc_sourcemap_json.specs.Words.{OnlyAdds}
use Rattle.sourcemap_run.proofs.contexts.push_spaces.Given as goal

-- what is written so far, and spaces for the bytes that are left, are all spaces
abbrev pub invariant-loop-byte : goal.invariant-loop-byte
invariant-loop-byte l = record {
  bytes : string_bytes l.out ++ flat_map (λ (byte : ℕ). codes " ") (drop l._byte-index l.bytes) ≡ string_bytes l.fn.out ++ flat_map (λ (byte : ℕ). codes " ") l.bytes;
  adds : OnlyAdds l.fn.out l.out;
}
