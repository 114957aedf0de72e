use Rattle.std.proofs.Common.{◌≡◌, map, take, drop}
use Rattle.oxc_sourcemap_c.specs.Mends.{numbers_of_mend}
use Rattle.oxc_sourcemap_c.proofs.reading.mends.write_mends.Given as goal

abbrev pub invariant-loop-i : goal.invariant-loop-i
invariant-loop-i l = record {
  front : take l.i l.out ≡ map numbers_of_mend (take l.i l.mends);
  back : drop l.i l.out ≡ drop l.i l.initial.out;
}
