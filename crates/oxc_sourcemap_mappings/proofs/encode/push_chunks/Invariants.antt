use Rattle.std.proofs.Common.{◌≡◌, ◌++◌, drop, string_bytes, flat_map}
use Rattle.oxc_sourcemap_mappings.specs.ChunkTexts.{chunk_text}
use Rattle.oxc_sourcemap_mappings.specs.Encoding.{OnlyAdds, AreWritten}
use Rattle.oxc_sourcemap_mappings.proofs.encode.push_chunks.Given as goal

abbrev pub invariant-loop-chunk : goal.invariant-loop-chunk
invariant-loop-chunk l = record {
  bytes : string_bytes l.out ++ flat_map (chunk_text l.tokens) (drop l.chunk-index l.chunks) ≡ string_bytes l.initial.out ++ flat_map (chunk_text l.tokens) l.chunks;
  written : AreWritten l.tokens (drop l.chunk-index l.chunks) → AreWritten l.tokens l.chunks;
  adds : OnlyAdds (string_bytes l.initial.out) (string_bytes l.out);
}
