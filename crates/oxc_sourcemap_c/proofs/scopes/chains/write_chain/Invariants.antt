use Rattle.std.proofs.Common.{◌≡◌, map, take, drop}
use Rattle.oxc_sourcemap_c.specs.ScopeNumbers.{chain_entry_numbers}
use Rattle.oxc_sourcemap_c.proofs.scopes.chains.write_chain.Given as goal

abbrev pub invariant-loop-i : goal.invariant-loop-i
invariant-loop-i l = record {
  front : take l.i l.out ≡ map chain_entry_numbers (take l.i l.chain);
  back : drop l.i l.out ≡ drop l.i l.initial.out;
}
