-- Laws of reading and writing.
use Rattle.std.specs.Prelude.{◌≡◌, ℕ, ◌<◌, List, Ok, IfSome, ◌↔◌}
use Rattle.std.specs.List.{AllByRecursion, flat_map}
use Rattle.oxc_sourcemap_tokens.specs.declared.token.TokenChunk.{TokenChunk}
use Rattle.oxc_sourcemap_tokens.specs.Token.{TokenRecord, AreInBounds, mapped_name}
use Rattle.oxc_sourcemap_mappings.specs.Reading.{reading}
use Rattle.oxc_sourcemap_mappings.specs.Canonical.{canonical, as_written, carried}
use Rattle.oxc_sourcemap_tokens.specs.LineOrder.{IsInLineOrder}
use Rattle.oxc_sourcemap_mappings.specs.ChunkTexts.{chunk_text}
use Rattle.oxc_sourcemap_tokens.specs.Chunks.{ChunksFit}

-- a list in line order and in bounds
pub record IsOrderedInBounds (tokens : List TokenRecord) : Type 0 where
  pub in_order : IsInLineOrder tokens
  pub in_bounds : AreInBounds tokens

-- the ids of a token that are written are below these counts
pub record AreWrittenIdsBelow (names sources : ℕ) (t : TokenRecord) : Type 0 where
  pub source_id : IfSome t.source_id (λ id. id < sources)
  pub name_id : IfSome (mapped_name t) (λ id. id < names)

-- Two lists have the same text exactly if they are equal as written.
abbrev pub CanonicalUnique : Type 0
CanonicalUnique = (a b : List TokenRecord) → IsOrderedInBounds a → IsOrderedInBounds b
    → (canonical a ≡ canonical b) ↔ (as_written a ≡ as_written b)

-- A written text reads, with counts above its ids, without fault, and as a list that is equal as written: an unmapped token
-- comes back with the source position that the sums have there.
abbrev pub ReadsBack : Type 0
ReadsBack = (names sources : ℕ) (tokens : List TokenRecord)
    → IsOrderedInBounds tokens → AllByRecursion (AreWrittenIdsBelow names sources) tokens
    → (reading (canonical tokens) names sources ≡ Ok (carried tokens)) × (as_written (carried tokens) ≡ as_written tokens)

-- The tokens of a text are in line order and in bounds, and the same once they are written and read again.
abbrev pub ReadsAgain : Type 0
ReadsAgain = (text : List ℕ) (names sources : ℕ) (tokens : List TokenRecord) → reading text names sources ≡ Ok tokens
    → IsOrderedInBounds tokens × (reading (canonical tokens) names sources ≡ Ok tokens)

-- The chunk_text of a chunk, whatever it says, is ASCII.
abbrev pub ChunkTextsAreAscii : Type 0
ChunkTextsAreAscii = (tokens : List TokenRecord) (chunk : TokenChunk) → AllByRecursion (λ b. b < 128) (chunk_text tokens chunk)

-- Whatever chunks fit a list, their pieces in order are its text.
abbrev pub InPieces : Type 0
InPieces = (tokens : List TokenRecord) (chunks : List TokenChunk) → ChunksFit tokens chunks
    → flat_map (chunk_text tokens) chunks ≡ canonical tokens
