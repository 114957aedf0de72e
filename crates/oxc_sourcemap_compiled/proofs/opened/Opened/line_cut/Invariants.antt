use Rattle.std.proofs.Common.{◌≡◌, ◌≤◌, ◌+◌}
use Rattle.oxc_sourcemap_lookup.specs.Digits.{binary_digits}
use Rattle.oxc_sourcemap_compiled.specs.Words.{number_in_list}
use Rattle.oxc_sourcemap_compiled.proofs.Searches.{IsHalved}
use Rattle.oxc_sourcemap_compiled.proofs.opened.Opened.line_cut.Given as goal

abbrev pub invariant-loop-size : goal.invariant-loop-size
invariant-loop-size l = record {
  halved : IsHalved (number_in_list l.self.bytes.now l.self.header) l.line 0 l.self.header.lines l.start l.size;
  counted : l.compared + binary_digits l.size ≡ l.fn.steps + binary_digits l.self.header.lines;
  small : binary_digits l.self.header.lines ≤ 32;
  few : l.fn.steps ≤ 65535;
}

abbrev pub decreases-loop-size : goal.decreases-loop-size
decreases-loop-size l = l.size
