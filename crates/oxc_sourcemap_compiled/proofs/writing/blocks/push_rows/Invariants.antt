use Rattle.std.proofs.Common.{◌≡◌, ◌≤◌, ◌++◌, ◌+◌, ◌*◌, drop}
use Rattle.oxc_sourcemap_compiled.specs.Words.{rows_of}
use Rattle.oxc_sourcemap_compiled.proofs.writing.blocks.push_rows.Given as goal

abbrev pub invariant-loop-block : goal.invariant-loop-block
invariant-loop-block l = record {
  value : l.out.items ++ rows_of l.place l.each l.rest (drop l.block-index l.blocks) ≡ l.initial.out.items ++ rows_of 0 l.each l.groups l.blocks;
  most : l.place + 160 * l.rest ≤ 160 * l.groups;
}
