use Rattle.std.proofs.Common.{◌≡◌, ◌++◌, take}
use Rattle.oxc_sourcemap_compiled.specs.Words.{table}
use Rattle.oxc_sourcemap_compiled.proofs.writing.pushing.push_table.Given as goal

abbrev pub invariant-loop-number : goal.invariant-loop-number
invariant-loop-number l = l.out.items ≡ l.initial.out.items ++ table (take l.number-index l.numbers)
