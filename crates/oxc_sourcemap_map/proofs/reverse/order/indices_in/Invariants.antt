use Rattle.std.proofs.Common.{◌≡◌, ◌++◌, ◌%◌, map, drop}
use Rattle.oxc_sourcemap_map.proofs.reverse.order.indices_in.Given as goal

abbrev pub invariant-loop-number : goal.invariant-loop-number
invariant-loop-number l = l.order.items ++ map (λ n. n % 4294967296) (drop l.number-index l.numbers) ≡ map (λ n. n % 4294967296) l.numbers
