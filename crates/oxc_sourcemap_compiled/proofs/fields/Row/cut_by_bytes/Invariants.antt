use Rattle.std.proofs.Common.{◌≡◌, ◌≤◌, ◌+◌, ◌*◌, ◌/◌}
use Rattle.oxc_sourcemap_lookup.specs.Digits.{binary_digits}
use Rattle.oxc_sourcemap_compiled.specs.Words.{value_in}
use Rattle.oxc_sourcemap_compiled.proofs.Searches.{IsHalved}
use Rattle.oxc_sourcemap_compiled.proofs.fields.Row.cut_by_bytes.Given as goal

abbrev pub invariant-loop-size : goal.invariant-loop-size
invariant-loop-size l = record {
  halved : IsHalved (value_in l.bytes l.self l.self.column) l.limit l.first l.count l.start l.size;
  counted : l.compared + binary_digits l.size ≡ l.fn.steps + binary_digits l.count;
  small : binary_digits l.count ≤ 15;
  at : l.at ≡ l.self.at + l.start * (l.self.stride / 8);
  few : l.fn.steps ≤ 65535;
}

abbrev pub decreases-loop-size : goal.decreases-loop-size
decreases-loop-size l = l.size
