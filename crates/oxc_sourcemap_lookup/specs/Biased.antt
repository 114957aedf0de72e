-- Which token answers for a generated position, by a bias.
use Rattle.std.specs.Prelude.{ℕ, List, Option}
use Rattle.oxc_sourcemap_tokens.specs.Token.{TokenRecord}
use Rattle.oxc_sourcemap_lookup.specs.Lookup.{index_for, clamped_index_for, index_after}
use Rattle.oxc_sourcemap_lookup.specs.Lookup.{token_for, clamped_token_for, token_after}
use Rattle.oxc_sourcemap_lookup.specs.declared.bias.Bias.{Bias}
use Rattle.oxc_sourcemap_lookup.specs.declared.bias.Bias.TheVariants.{Before, Clamped, After}

-- the index of the token that answers for a position
abbrev pub index_by : Bias → List TokenRecord → ℕ → ℕ → Option ℕ
index_by Before tokens line col = index_for tokens line col
index_by Clamped tokens line col = clamped_index_for tokens line col
index_by After tokens line col = index_after tokens line col

-- the token that answers for a position
abbrev pub token_by : Bias → List TokenRecord → ℕ → ℕ → Option TokenRecord
token_by Before tokens line col = token_for tokens line col
token_by Clamped tokens line col = clamped_token_for tokens line col
token_by After tokens line col = token_after tokens line col
