-- Sound maps.
use Rattle.std.specs.Prelude.{◌≡◌, ℕ, ◌<◌, true, length, IfSome}
use Rattle.std.specs.List.{AllByRecursion}
use Rattle.oxc_sourcemap_tokens.specs.Token.{TokenRecord}
use Rattle.oxc_sourcemap_tokens.specs.Chunks.{ChunksFit}
use Rattle.oxc_sourcemap_parts.specs.Record.{MapRecord}
use Rattle.oxc_sourcemap_parts.specs.Sorted.{are_tokens_sorted}

-- the ids of a token, where it has them, are below these counts
pub record IsInRange (names sources : ℕ) (t : TokenRecord) : Type 0 where
  pub source_id : IfSome t.source_id (λ id. id < sources)
  pub name_id : IfSome t.name_id (λ id. id < names)

-- all ids of tokens and all entries of the ignore list are in range
pub record AreIdsInRange (r : MapRecord) : Type 0 where
  pub tokens : AllByRecursion (IsInRange (length r.names) (length r.sources)) r.tokens
  pub ignore_list : IfSome r.ignore_list (AllByRecursion (λ id. id < length r.sources))

-- A sound map: sorted, its ids in range, and its chunks absent or fitting.
pub record IsSound (r : MapRecord) : Type 0 where
  pub sorted : are_tokens_sorted r.tokens ≡ true
  pub in_range : AreIdsInRange r
  pub chunks : IfSome r.token_chunks (ChunksFit r.tokens)
