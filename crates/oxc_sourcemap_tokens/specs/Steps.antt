-- The state as code carries it from token to token, beside the states of `State`. Of public contracts only those of
-- `Previous` cite this module.
use Rattle.std.specs.Prelude.{ℕ, List, [], ◌∷◌, Option, None}
use Rattle.std.specs.Option.{unwrap_or, option_map, option_or}
use Rattle.oxc_sourcemap_tokens.specs.declared.state.Previous.{Previous}
use Rattle.oxc_sourcemap_tokens.specs.Token.{TokenRecord, mapped_name, beside_source}
use Rattle.oxc_sourcemap_tokens.specs.State.{State}

-- the state that a `Previous` stands for
abbrev pub state_of : Previous → State
state_of p = record { dst_line = p.dst_line; dst_col = p.dst_col; source_id = p.source_id; src_line = p.src_line; src_col = p.src_col; name_id = p.name_id }

-- the state after one more token
abbrev pub advanced : State → TokenRecord → State
advanced s t = record {
  dst_line = t.dst_line;
  dst_col = t.dst_col;
  source_id = unwrap_or t.source_id s.source_id;
  src_line = unwrap_or (beside_source t.source_id t.src_line) s.src_line;
  src_col = unwrap_or (beside_source t.source_id t.src_col) s.src_col;
  name_id = unwrap_or (mapped_name t) s.name_id;
}

-- the state after these tokens, in the order of the list
abbrev pub advanced_all : State → List TokenRecord → State
advanced_all s [] = s
advanced_all s (t ∷ ts) = advanced_all (advanced s t) ts

-- the source id, line and column of a mapped token
abbrev pub source_given : TokenRecord → Option (ℕ × ℕ × ℕ)
source_given t = option_map (λ id. (id, t.src_line, t.src_col)) t.source_id

-- what the last token for which `given` is not none gives
abbrev pub last_given : {A : Type 0} → (TokenRecord → Option A) → List TokenRecord → Option A
last_given given [] = None
last_given given (t ∷ ts) = option_or (last_given given ts) (given t)
