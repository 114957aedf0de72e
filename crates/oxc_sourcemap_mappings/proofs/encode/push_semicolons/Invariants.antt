use Rattle.std.proofs.Common.{◌≡◌, ◌++◌, replicate, string_bytes}
use Rattle.oxc_sourcemap_mappings.specs.Encoding.{OnlyAdds}
use Rattle.oxc_sourcemap_mappings.proofs.encode.push_semicolons.Given as goal

abbrev pub invariant-loop-i : goal.invariant-loop-i
invariant-loop-i l = record {
  bytes : string_bytes l.out ≡ string_bytes l.initial.out ++ replicate l.i 59;
  adds : OnlyAdds (string_bytes l.initial.out) (string_bytes l.out);
}
