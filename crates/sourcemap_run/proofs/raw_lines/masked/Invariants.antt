use Rattle.std.proofs.Common.{string_bytes}
use Rattle.std.specs.Str.Chunks.{utf8_chunks_rest}
use Rattle.sourcemap_run.proofs.Masks.{GoesOn}
use Rattle.sourcemap_run.proofs.raw_lines.masked.Given as goal

-- what was made goes on with the text of what is left
abbrev pub invariant-loop-chunk : goal.invariant-loop-chunk
invariant-loop-chunk l = GoesOn l.line (string_bytes l.text) (utf8_chunks_rest l.chunk-iterator)
