-- Chunks: parts of a list of tokens, each written from a header of its own, which stands for all tokens before it.
use Rattle.std.specs.Prelude.{◌≡◌, ℕ, ◌+◌, ◌-◌, ◌≤◌, Bool, ◌&&◌, List, [], ◌∷◌, length, Option}
use Rattle.std.specs.Prelude.{Some, None, if◌then◌else◌, nat_le, ◌==◌, take, drop}
use Rattle.std.specs.Borrow.{Bor}
use Rattle.std.specs.Option.{option_map}
use Rattle.oxc_sourcemap_tokens.specs.declared.token.TokenChunk.{TokenChunk}
use Rattle.oxc_sourcemap_tokens.specs.Token.{TokenRecord}
use Rattle.oxc_sourcemap_tokens.specs.State.{State, state_at}

-- the header of a chunk, as a state
abbrev pub header : TokenChunk → State
header c = record {
  dst_line = c.prev_dst_line;
  dst_col = c.prev_dst_col;
  source_id = c.prev_source_id;
  src_line = c.prev_src_line;
  src_col = c.prev_src_col;
  name_id = c.prev_name_id;
}

-- the tokens of a chunk
abbrev pub chunk_tokens : List TokenRecord → TokenChunk → List TokenRecord
chunk_tokens tokens c = take (c.end - c.start) (drop c.start tokens)

-- the chunk of the tokens from one index up to another, which is written from this state
abbrev pub chunk_from : State → ℕ → ℕ → TokenChunk
chunk_from s start end = record {
  start = start;
  end = end;
  prev_dst_line = s.dst_line;
  prev_dst_col = s.dst_col;
  prev_src_line = s.src_line;
  prev_src_col = s.src_col;
  prev_name_id = s.name_id;
  prev_source_id = s.source_id;
}

-- A chunk fits the tokens, where its predecessor ended at this index.
pub record ChunkFits (tokens : List TokenRecord) (index : ℕ) (c : TokenChunk) : Type 0 where
  pub starts : c.start ≡ index
  pub ordered : c.start ≤ c.end
  pub within : c.end ≤ length tokens
  pub true_header : header c ≡ state_at tokens c.start

-- each chunk fits from this index on, and no token is left over
abbrev pub ChunksFitFrom : List TokenRecord → ℕ → List TokenChunk → Type 0
ChunksFitFrom tokens index [] = index ≡ length tokens
ChunksFitFrom tokens index (c ∷ cs) = ChunkFits tokens index c × ChunksFitFrom tokens c.end cs

-- each chunk fits after its predecessor, the first at index 0, and no token is left over
abbrev pub ChunksFit : List TokenRecord → List TokenChunk → Type 0
ChunksFit tokens chunks = ChunksFitFrom tokens 0 chunks

-- equality of states, as a test
abbrev pub is_same_state : State → State → Bool
is_same_state a b =
    a.dst_line == b.dst_line && (a.dst_col == b.dst_col && (a.source_id == b.source_id
    && (a.src_line == b.src_line && (a.src_col == b.src_col && a.name_id == b.name_id))))

-- that a chunk fits, as a test
abbrev pub is_fitting_chunk : List TokenRecord → ℕ → TokenChunk → Bool
is_fitting_chunk tokens index c =
    c.start == index && (nat_le c.start c.end && (nat_le c.end (length tokens) && is_same_state (header c) (state_at tokens c.start)))

-- the first chunk that does not fit, of chunks from k on, the first of which has to start at this index
abbrev pub first_misfit_from : List TokenRecord → ℕ → ℕ → List TokenChunk → Option ℕ
first_misfit_from tokens index k [] = if index == length tokens then None else Some k
first_misfit_from tokens index k (c ∷ cs) = if is_fitting_chunk tokens index c then first_misfit_from tokens c.end (k + 1) cs else Some k

-- The index of the first chunk that does not fit. Where there is none, but tokens are left over, the number of chunks.
abbrev pub first_misfit : List TokenRecord → List TokenChunk → Option ℕ
first_misfit tokens chunks = first_misfit_from tokens 0 0 chunks

-- the chunks behind a borrow
abbrev pub lent_chunks : Option (Bor (List TokenChunk)) → Option (List TokenChunk)
lent_chunks chunks = option_map (λ cs. cs.now) chunks
