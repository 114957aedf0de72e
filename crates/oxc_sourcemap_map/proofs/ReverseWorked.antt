-- Worked examples of lookups by original positions, computed by the definitions themselves.
use Rattle.std.specs.Prelude.{◌≡◌, refl, ℕ, List, [], ◌∷◌, Some, None}
use Rattle.oxc_sourcemap_tokens.specs.Token.{TokenRecord}
use Rattle.oxc_sourcemap_map.specs.Reverse.{generated_for, generated_from, all_generated_for}
use Rattle.oxc_sourcemap_map.specs.Reverse.{all_generated_from}

-- a generated column, and a source column on line 0 of source 1
abbrev token : ℕ → ℕ → TokenRecord
token dst_col src_col = record { dst_line = 0; dst_col = dst_col; src_line = 0; src_col = src_col; source_id = Some 1; name_id = None }

abbrev tokens : List TokenRecord
tokens = token 0 4 ∷ token 3 9 ∷ record (token 4 4) { source_id = None } ∷ record (token 5 4) { source_id = Some 0 } ∷ token 6 4 ∷ token 8 9 ∷ []

finds-first_where_hit : generated_for 1 0 4 tokens ≡ Some (token 0 4)
finds-first_where_hit = refl

finds-last_before : generated_for 1 0 8 tokens ≡ Some (token 6 4)
finds-last_before = refl

finds-last_where_hit_from_above : generated_from 1 0 4 tokens ≡ Some (token 6 4)
finds-last_where_hit_from_above = refl

finds-first_after : generated_from 1 0 5 tokens ≡ Some (token 3 9)
finds-first_after = refl

finds-none_before : generated_for 1 0 3 tokens ≡ None
finds-none_before = refl

finds-all : all_generated_for 1 0 8 tokens ≡ token 0 4 ∷ token 6 4 ∷ []
finds-all = refl

finds-all_after : all_generated_from 1 0 5 tokens ≡ token 3 9 ∷ token 8 9 ∷ []
finds-all_after = refl
