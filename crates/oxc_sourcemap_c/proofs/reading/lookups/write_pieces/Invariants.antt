use Rattle.std.proofs.Common.{◌≡◌, map, take, drop}
use Rattle.oxc_sourcemap_c.specs.Structs.{piece_numbers}
use Rattle.oxc_sourcemap_c.proofs.reading.lookups.write_pieces.Given as goal

abbrev pub invariant-loop-i : goal.invariant-loop-i
invariant-loop-i l = record {
  more : l.pieces ≡ drop l.i l.fn.pieces;
  written : take l.i l.out ≡ map piece_numbers (take l.i l.fn.pieces);
  left : drop l.i l.out ≡ drop l.i l.fn.out;
}
