use Rattle.std.proofs.Common.{◌≡◌, ◌≤◌, ◌+◌}
use Rattle.oxc_sourcemap_lookup.specs.Digits.{binary_digits}
use Rattle.oxc_sourcemap_compiled.specs.Words.{least_column_of}
use Rattle.oxc_sourcemap_compiled.proofs.Searches.{IsHalved}
use Rattle.oxc_sourcemap_compiled.proofs.opened.Opened.block_cut.Given as goal

abbrev pub invariant-loop-size : goal.invariant-loop-size
invariant-loop-size l = record {
  halved : IsHalved (least_column_of l.self.bytes.now l.self.header) l.limit l.first l.count l.start l.size;
  counted : l.compared + binary_digits l.size ≡ l.fn.steps + binary_digits l.count;
  small : binary_digits l.count ≤ 32;
  few : l.fn.steps ≤ 65535;
}

abbrev pub decreases-loop-size : goal.decreases-loop-size
decreases-loop-size l = l.size
