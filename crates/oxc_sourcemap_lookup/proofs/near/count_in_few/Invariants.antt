use Rattle.std.proofs.Common.{◌≡◌, take, nat_lt}
use Rattle.std.specs.List.{count_by}
use Rattle.oxc_sourcemap_lookup.proofs.near.count_in_few.Given as goal

abbrev pub invariant-loop-token : goal.invariant-loop-token
invariant-loop-token l = l.count ≡ count_by (λ t. nat_lt t.dst_col l.col) (take l.token-index l.line)
