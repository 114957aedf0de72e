-- Places in sources as numbers, and the order of tokens by them. Contracts of private functions cite these.
use Rattle.std.specs.Prelude.{◌≡◌, ℕ, ◌+◌, ◌*◌, ◌<◌, ◌≤◌, ◌==◌, ◌&&◌, List, [], ◌∷◌, map, filter}
use Rattle.std.specs.Prelude.{length, get_or, None, if◌then◌else◌}
use Rattle.std.specs.Option.{unwrap_or}
use Rattle.std.specs.List.{All}
use Rattle.std.specs.List.Sorted.{IsNonDecreasingBy}
use Rattle.oxc_sourcemap_tokens.specs.Token.{TokenRecord, is_mapped, AreInBounds}
use Rattle.oxc_sourcemap_map.specs.Reverse.{passing}

-- a number that orders places: by source, then by line, then by column
abbrev pub original_number : ℕ → ℕ → ℕ → ℕ
original_number source line col = source * 18446744073709551616 + line * 4294967296 + col

-- that of the place that a token points to
abbrev pub token_original : TokenRecord → ℕ
token_original t = original_number (unwrap_or t.source_id 4294967295) t.src_line t.src_col

-- a token at the front and those after it, if they are mapped: the numbers of their places, each followed by the 32 digits of
-- the token's index
abbrev pub numbered_from : ℕ → List TokenRecord → List ℕ
numbered_from i [] = []
numbered_from i (t ∷ ts) =
    if is_mapped t then (token_original t * 4294967296 + i) ∷ numbered_from (i + 1) ts else numbered_from (i + 1) ts

-- what stands for a token past the end
abbrev pub no_token : TokenRecord
no_token = record { dst_line = 0; dst_col = 0; src_line = 0; src_col = 0; source_id = None; name_id = None }

-- the tokens with these indices
abbrev pub listed : List TokenRecord → List ℕ → List TokenRecord
listed tokens order = map (λ i. get_or tokens i no_token) order

-- These are the indices of the mapped tokens, by place, and for each place in the order of the map.
pub record IsOrderOf (tokens : List TokenRecord) (order : List ℕ) : Type 0 where
  pub in_bounds : AreInBounds tokens
  pub few : length tokens < 4294967296
  pub within : All (λ i. i < length tokens) order
  pub fewer : length order ≤ length tokens
  pub rises : IsNonDecreasingBy token_original (listed tokens order)
  pub each : (place : ℕ) → filter (λ t. token_original t == place) (listed tokens order)
      ≡ filter (λ t. is_mapped t && token_original t == place) tokens
  pub each_index : (place : ℕ) → filter (λ i. token_original (get_or tokens i no_token) == place) order
      ≡ passing (λ t. is_mapped t && token_original t == place) tokens

-- all lie from one place up to but not including another
abbrev pub AreBetween : ℕ → ℕ → List TokenRecord → Type 0
AreBetween from to found = All (λ t. (from ≤ token_original t) × (token_original t < to)) found
