-- What is written is ASCII.
use Rattle.std.proofs.Common.{ℕ, Bool, true, false, cond, List, [], ◌∷◌, ◌++◌, replicate, ◌==◌, ◌-◌}
use Rattle.std.proofs.Common.{take, drop, sym, subst}
use Rattle.oxc_sourcemap_tokens.specs.declared.token.TokenChunk.{TokenChunk}
use Rattle.oxc_sourcemap_tokens.specs.Chunks.{header}
use Rattle.oxc_sourcemap_tokens.specs.State.{State}
use Rattle.oxc_sourcemap_tokens.specs.Steps.{advanced}
use Rattle.oxc_sourcemap_tokens.specs.Token.{TokenRecord, mapped_name}
use Rattle.oxc_sourcemap_mappings.specs.Canonical.{delta_text, separator, column_text, source_text}
use Rattle.oxc_sourcemap_mappings.specs.Canonical.{token_text}
use Rattle.oxc_sourcemap_mappings.specs.Encoding.{text_from}
use Rattle.oxc_sourcemap_mappings.specs.ChunkTexts.{chunk_text}
use Rattle.oxc_sourcemap_mappings.proofs.Letters.{ArePlain, comma-plain, or-plain, plain-append}
use Rattle.oxc_sourcemap_mappings.proofs.Letters.{plain-replicate, source-plain, vlq_text-plain}
use Rattle.oxc_sourcemap_mappings.proofs.Pieces.{piece-is}

between-plain : (same is_first : Bool) (n : ℕ) → ArePlain (cond same (cond is_first [] (44 ∷ [])) (replicate n 59))
between-plain true is_first n = comma-plain is_first
between-plain false is_first n = plain-replicate n

separator-plain : (is_first : Bool) (s : State) (t : TokenRecord) → ArePlain (separator is_first s t)
unfolding separator
separator-plain is_first s t = between-plain (t.dst_line == s.dst_line) is_first _

token_text-plain : (is_first : Bool) (s : State) (t : TokenRecord) → ArePlain (token_text is_first s t)
unfolding token_text
token_text-plain is_first s t =
    plain-append (separator is_first s t ++ column_text s t ++ source_text s t) _
    (plain-append (separator is_first s t ++ column_text s t) _
    (plain-append (separator is_first s t) _ (separator-plain is_first s t) (vlq_text-plain _))
    (or-plain t.source_id _ (source-plain s t)))
    (or-plain (mapped_name t) (λ id. delta_text id s.name_id) (λ id. vlq_text-plain _))

text_from-plain : (is_first : Bool) (s : State) (ts : List TokenRecord) → ArePlain (text_from is_first s ts)
text_from-plain is_first s [] = tt
text_from-plain is_first s (t ∷ ts) =
    plain-append (token_text is_first s t) _ (token_text-plain is_first s t) (text_from-plain false (advanced s t) ts)

pub piece-plain : (tokens : List TokenRecord) (c : TokenChunk) → ArePlain (chunk_text tokens c)
piece-plain tokens c =
    subst ArePlain (sym (piece-is tokens c)) (text_from-plain (c.start == 0) (header c) (take (c.end - c.start) (drop c.start tokens)))
