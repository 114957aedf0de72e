use Rattle.std.proofs.Common.{◌≡◌, ◌+◌, ◌-◌, ◌≤◌, ◌==◌, length}
use Rattle.std.specs.List.{prefix_len}
use Rattle.oxc_sourcemap_lookup.proofs.lookup.line_length.Given as goal

abbrev pub invariant-loop-rest : goal.invariant-loop-rest
invariant-loop-rest l = record {
  within : length l.rest ≤ length l.tokens;
  count : (length l.tokens - length l.rest) + prefix_len (λ t. t.dst_line == l.line) l.rest ≡ prefix_len (λ t. t.dst_line == l.line) l.tokens;
}

abbrev pub decreases-loop-rest : goal.decreases-loop-rest
decreases-loop-rest l = length l.rest
