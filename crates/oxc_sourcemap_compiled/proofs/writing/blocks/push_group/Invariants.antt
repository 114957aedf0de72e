use Rattle.std.proofs.Common.{◌≤◌, ◌<◌, ◌*◌, ◌^◌}
use Rattle.oxc_sourcemap_compiled.specs.Compiled.{IsWritten, stride_of, first_bits}
use Rattle.oxc_sourcemap_compiled.proofs.writing.blocks.push_group.Given as goal

abbrev pub invariant-loop-n : goal.invariant-loop-n
invariant-loop-n l = record {
  written : IsWritten l.initial.out.items l.out.items l.rest (l.n * stride_of l.block) (first_bits l.block l.tokens l.n);
  left : l.rest.bits < 2 ^ l.rest.count;
  few : l.rest.count ≤ 7;
}
