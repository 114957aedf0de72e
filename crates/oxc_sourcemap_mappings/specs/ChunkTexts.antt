-- The texts of chunks, and the faults for which a chunk or a list cannot be written.
use Rattle.std.specs.Prelude.{ℕ, ◌&&◌, List, [], ◌∷◌, ◌++◌, length, Option, Some, None}
use Rattle.std.specs.Prelude.{if◌then◌else◌, nat_lt, nat_le, ◌==◌}
use Rattle.std.specs.Option.{option_map, option_map_or}
use Rattle.oxc_sourcemap_tokens.specs.declared.errors.error.Error.{Error}
use Rattle.oxc_sourcemap_tokens.specs.declared.errors.error.Error.TheVariants.{LineOrder, BadChunks}
use Rattle.oxc_sourcemap_tokens.specs.declared.errors.error.Error.TheVariants.{TooLarge}
use Rattle.oxc_sourcemap_tokens.specs.declared.token.TokenChunk.{TokenChunk}
use Rattle.oxc_sourcemap_tokens.specs.Token.{TokenRecord}
use Rattle.oxc_sourcemap_tokens.specs.State.{state_after}
use Rattle.oxc_sourcemap_tokens.specs.LineOrder.{first_out_of_order, back_from}
use Rattle.oxc_sourcemap_tokens.specs.Chunks.{header, chunk_tokens, first_misfit}
use Rattle.oxc_sourcemap_mappings.specs.Faults.{◌orelse◌}
use Rattle.oxc_sourcemap_mappings.specs.Canonical.{token_text, has_none_before}

-- The text of these tokens of a chunk, after the tokens of the chunk before them, the nearest first. Its header stands for
-- all tokens before the chunk. Only a chunk that starts at index 0 has the first token of all.
unfoldable pub chunk_text_after : TokenChunk → List TokenRecord → List TokenRecord → List ℕ
chunk_text_after c before [] = []
chunk_text_after c before (t ∷ ts) =
    token_text (c.start == 0 && has_none_before before) (state_after (header c) before) t ++ chunk_text_after c (t ∷ before) ts

-- the text of the tokens of a chunk, written from its header even if that is not the state there
unfoldable pub chunk_text : List TokenRecord → TokenChunk → List ℕ
chunk_text tokens c = chunk_text_after c [] (chunk_tokens tokens c)

-- The fault of a chunk_text: of the chunk's range, else of its first token on a line before that of the token before it. The
-- chunk's first token is compared with the header.
abbrev pub chunk_text_fault : List TokenRecord → TokenChunk → Option Error
chunk_text_fault tokens c =
    if nat_le c.start c.end && nat_le c.end (length tokens)
    then option_map (λ i. LineOrder i) (back_from c.prev_dst_line c.start (chunk_tokens tokens c))
    else Some (BadChunks 0)

-- the fault of a list that is to be written: of its line order, then of its chunks, then of its length
abbrev pub writing_fault : List TokenRecord → Option (List TokenChunk) → Option Error
writing_fault tokens chunks =
    option_map (λ i. LineOrder i) (first_out_of_order tokens)
    orelse option_map_or (λ cs. option_map (λ k. BadChunks k) (first_misfit tokens cs)) chunks None
    orelse (if nat_lt 4294967295 (length tokens) then Some TooLarge else None)
