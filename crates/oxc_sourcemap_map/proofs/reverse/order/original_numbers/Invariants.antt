use Rattle.std.proofs.Common.{◌≡◌, ◌++◌, drop}
use Rattle.oxc_sourcemap_map.specs.Places.{numbered_from}
use Rattle.oxc_sourcemap_map.proofs.reverse.order.original_numbers.Given as goal

abbrev pub invariant-loop-i : goal.invariant-loop-i
invariant-loop-i l = l.numbers.items ++ numbered_from l.i (drop l.i l.tokens) ≡ numbered_from 0 l.tokens
