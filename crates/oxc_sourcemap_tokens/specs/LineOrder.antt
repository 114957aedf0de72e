-- The order of generated lines.
use Rattle.std.specs.Prelude.{◌≡◌, ℕ, ◌+◌, List, [], ◌∷◌, Option, Some, None, if◌then◌else◌, nat_lt}
use Rattle.std.specs.Option.{option_map}
use Rattle.oxc_sourcemap_tokens.specs.Token.{TokenRecord}

-- the index of the first token whose generated line goes back
abbrev pub first_out_of_order : List TokenRecord → Option ℕ
first_out_of_order [] = None
first_out_of_order (t ∷ []) = None
first_out_of_order (t ∷ u ∷ ts) =
    if nat_lt u.dst_line t.dst_line then Some 1 else option_map (λ i. i + 1) (first_out_of_order (u ∷ ts))

-- The index of the first token whose generated line goes back, where the first has index i and follows a token on this line.
abbrev pub back_from : ℕ → ℕ → List TokenRecord → Option ℕ
back_from line i [] = None
back_from line i (t ∷ ts) = if nat_lt t.dst_line line then Some i else back_from t.dst_line (i + 1) ts

-- generated lines never go back
abbrev pub IsInLineOrder : List TokenRecord → Type 0
IsInLineOrder tokens = first_out_of_order tokens ≡ None
