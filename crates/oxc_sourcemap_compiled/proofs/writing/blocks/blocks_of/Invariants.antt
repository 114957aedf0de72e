use Rattle.std.proofs.Common.{◌≡◌, ◌<◌, ℕ, length, get_or}
use Rattle.oxc_sourcemap_compiled.specs.Compiled.{ArePacked, block_tokens}
use Rattle.oxc_sourcemap_compiled.specs.declared.writing.blocks.Block.{Block}
use Rattle.oxc_sourcemap_compiled.proofs.writing.blocks.blocks_of.Given as goal

abbrev pub invariant-loop-b : goal.invariant-loop-b
invariant-loop-b l = record {
  count : length l.blocks.items ≡ l.b;
  each : (b : ℕ) (d : Block) → b < l.b → ArePacked (block_tokens l.tokens b) (get_or l.blocks.items b d);
}
