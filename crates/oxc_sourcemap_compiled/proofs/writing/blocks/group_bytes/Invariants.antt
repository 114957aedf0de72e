use Rattle.std.proofs.Common.{◌≡◌, ◌≤◌, ◌+◌, ◌*◌, drop}
use Rattle.oxc_sourcemap_compiled.specs.Words.{group_bytes_of}
use Rattle.oxc_sourcemap_compiled.proofs.writing.blocks.group_bytes.Given as goal

abbrev pub invariant-loop-block : goal.invariant-loop-block
invariant-loop-block l = record {
  value : l.sum + group_bytes_of l.each l.rest (drop l.block-index l.blocks) ≡ group_bytes_of l.each l.groups l.blocks;
  most : l.sum + 160 * l.rest ≤ 160 * l.groups;
}
