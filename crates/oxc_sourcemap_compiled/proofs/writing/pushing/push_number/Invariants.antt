use Rattle.std.proofs.Common.{◌≡◌, ◌++◌, ◌-◌}
use Rattle.oxc_sourcemap_compiled.specs.Words.{bytes_of}
use Rattle.oxc_sourcemap_compiled.proofs.writing.pushing.push_number.Given as goal

abbrev pub invariant-loop : goal.invariant-loop
invariant-loop l = l.out.items ++ bytes_of (l.width - l.counter) l.rest ≡ l.initial.out.items ++ bytes_of l.width l.number
