-- The state at an index of a list, which the deltas of the token there start from.
use Rattle.std.specs.Prelude.{ℕ, List, [], ◌∷◌, Option, Some, reverse, take}
use Rattle.std.specs.Option.{unwrap_or}
use Rattle.oxc_sourcemap_tokens.specs.Token.{TokenRecord, mapped_name, beside_source}

-- the generated line and column, source id, source line and column, and name id that the next deltas start from
pub record State : Type 0 where
  pub dst_line : ℕ
  pub dst_col : ℕ
  pub source_id : ℕ
  pub src_line : ℕ
  pub src_col : ℕ
  pub name_id : ℕ

-- the state before the first token
abbrev pub initial : State
initial = record { dst_line = 0; dst_col = 0; source_id = 0; src_line = 0; src_col = 0; name_id = 0 }

-- The number that the nearest token with one gives, else the default. The list has the nearest token first.
abbrev pub nearest : (TokenRecord → Option ℕ) → ℕ → List TokenRecord → ℕ
nearest given default [] = default
nearest given default (t ∷ before) = unwrap_or (given t) (nearest given default before)

-- The state after some tokens, the nearest first, with this state before them all. Generated line and column come
-- from the nearest token, source id, line and column from the nearest mapped one, and the name id from the nearest mapped
-- one with a name.
abbrev pub state_after : State → List TokenRecord → State
state_after s before = record {
  dst_line = nearest (λ t. Some t.dst_line) s.dst_line before;
  dst_col = nearest (λ t. Some t.dst_col) s.dst_col before;
  source_id = nearest (λ t. t.source_id) s.source_id before;
  src_line = nearest (λ t. beside_source t.source_id t.src_line) s.src_line before;
  src_col = nearest (λ t. beside_source t.source_id t.src_col) s.src_col before;
  name_id = nearest mapped_name s.name_id before;
}

-- the state at index i of a list
abbrev pub state_at : List TokenRecord → ℕ → State
state_at tokens i = state_after initial (reverse (take i tokens))
