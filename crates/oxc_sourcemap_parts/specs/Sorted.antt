-- Order by generated line, then by generated column.
use Rattle.std.specs.Prelude.{ℕ, Bool, true, ◌&&◌, ◌||◌, List, [], ◌∷◌, nat_lt, nat_le, ◌==◌}
use Rattle.oxc_sourcemap_tokens.specs.Token.{TokenRecord}

-- an item may come before another: on a line before it, or on its line and not after its column
abbrev pub may_precede : {A : Type 0} → (A → ℕ) → (A → ℕ) → A → A → Bool
may_precede line column x y = nat_lt (line x) (line y) || (line x == line y && nat_le (column x) (column y))

-- each item may come before the next one
abbrev pub is_sorted_by : {A : Type 0} → (A → ℕ) → (A → ℕ) → List A → Bool
is_sorted_by line column [] = true
is_sorted_by line column (x ∷ []) = true
is_sorted_by line column (x ∷ y ∷ more) = may_precede line column x y && is_sorted_by line column (y ∷ more)

-- the generated line of a token
abbrev pub token_line : TokenRecord → ℕ
token_line t = t.dst_line

-- the generated column of a token
abbrev pub token_column : TokenRecord → ℕ
token_column t = t.dst_col

-- tokens are sorted by their generated positions; equal positions may follow one another
abbrev pub are_tokens_sorted : List TokenRecord → Bool
are_tokens_sorted tokens = is_sorted_by token_line token_column tokens
