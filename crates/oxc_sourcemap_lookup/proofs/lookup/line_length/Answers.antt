use Rattle.std.proofs.Common.{arith, ◌==◌}
use Rattle.std.proofs.lemmas.List.Sums.{prefix_len-le-length}
use Rattle.oxc_sourcemap_lookup.proofs.lookup.line_length.Goals as goal

pub overflow_add-result : goal.overflow_add-result
overflow_add-result c =
    omega (arith, c.loop-rest.invariant.within, c.count_on.ensures, prefix_len-le-length (λ t. t.dst_line == c.args.line) c.loop-rest.rest.now)
