use Rattle.std.proofs.Common.{◌≡◌, map, take, drop}
use Rattle.oxc_sourcemap_c.specs.Structs.{numbers_of}
use Rattle.oxc_sourcemap_c.proofs.reading.getters.write_tokens.Given as goal

abbrev pub invariant-loop-i : goal.invariant-loop-i
invariant-loop-i l = record {
  written : take l.i l.out ≡ map numbers_of (take l.i l.tokens);
  left : drop l.i l.out ≡ drop l.i l.fn.out;
}
