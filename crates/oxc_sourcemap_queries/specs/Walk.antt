-- How the tokens of two maps are walked from left to right, place by place. Contracts of private functions cite these.
use Rattle.std.specs.Prelude.{ℕ, ◌+◌, nat_lt, min, List, slice_get, Option, Some, None, option_map}
use Rattle.std.specs.Prelude.{if◌then◌else◌}
use Rattle.oxc_sourcemap_tokens.specs.Token.{TokenRecord}
use Rattle.oxc_sourcemap_queries.specs.Cuts.{token_position, passed_count}
use Rattle.oxc_sourcemap_queries.specs.declared.differ.walk.Step.{Step}

-- the place after one, if it is a number of 64 bits
abbrev pub position_after : ℕ → Option ℕ
position_after p = if nat_lt p 18446744073709551615 then Some (p + 1) else None

-- The first place after this one where another token may be found: the next one if several tokens lie at this place, else that
-- of the next token. The tokens from index `next` on are those that do not lie before this place.
abbrev pub change_after : List TokenRecord → ℕ → ℕ → Option ℕ
change_after tokens next p =
    if nat_lt 1 (passed_count tokens next p) then position_after p
    else option_map token_position (slice_get tokens (next + passed_count tokens next p))

abbrev pub step_at : List TokenRecord → ℕ → ℕ → Step
step_at tokens next p = record { passed = next + passed_count tokens next p; change = change_after tokens next p }

-- the lesser of two places, where there are some
abbrev pub earlier : Option ℕ → Option ℕ → Option ℕ
earlier None q = q
earlier (Some p) None = Some p
earlier (Some p) (Some q) = Some (min p q)
