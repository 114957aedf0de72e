use Rattle.std.proofs.Common.{◌≡◌, ◌≤◌, length, take}
use Rattle.oxc_sourcemap_map.specs.Reverse.{passing, is_into}
use Rattle.oxc_sourcemap_c.specs.Listed.{filled}
use Rattle.oxc_sourcemap_c.proofs.reading.reverse.write_line.Given as goal

abbrev pub invariant-loop-i : goal.invariant-loop-i
invariant-loop-i l = record {
  counted : l.count ≡ length (passing (is_into l.at.source_id l.at.line) (take l.i l.tokens));
  written : l.out ≡ filled (passing (is_into l.at.source_id l.at.line) (take l.i l.tokens)) l.fn.out;
  few : l.count ≤ l.i;
}
