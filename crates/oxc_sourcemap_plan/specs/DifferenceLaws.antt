-- That a map does not differ from the simplified one, and what simplifying makes of maps that do not differ.
use Rattle.std.specs.Prelude.{◌≡◌, ◌<◌, ◌≤◌, true, List, length, Ok}
use Rattle.std.specs.List.{AllByRecursion}
use Rattle.oxc_sourcemap_tokens.specs.Token.{TokenRecord}
use Rattle.oxc_sourcemap_parts.specs.Record.{MapRecord}
use Rattle.oxc_sourcemap_parts.specs.Sorted.{are_tokens_sorted}
use Rattle.oxc_sourcemap_queries.specs.Differences.{HaveSameTraceEverywhere}
use Rattle.oxc_sourcemap_steps.specs.Simplified.{simplified, simplification}

-- A sorted map and the simplified one have the same exact trace at every position.
abbrev pub SimplifiedTracesSame : Type 0
SimplifiedTracesSame = (r : MapRecord) → are_tokens_sorted r.tokens ≡ true → HaveSameTraceEverywhere r (simplified r)

-- What a map is simplified to is sorted as the map is, and has the same exact trace at every position.
abbrev pub SimplificationTracesSame : Type 0
SimplificationTracesSame = (r m : MapRecord) → simplification r ≡ Ok m
    → (are_tokens_sorted r.tokens ≡ true) × (are_tokens_sorted m.tokens ≡ true) × HaveSameTraceEverywhere r m

-- no token is at the greatest column, 4294967295
abbrev pub AreBelowLastColumn : List TokenRecord → Type 0
AreBelowLastColumn tokens = AllByRecursion (λ t. t.dst_col < 4294967295) tokens

-- No sorted map with the same exact traces everywhere has fewer tokens than a simplified one. (At the greatest column only the first
-- token is found, so tokens behind it there change no trace.)
abbrev pub SimplifiedIsLeast : Type 0
SimplifiedIsLeast = (a b : MapRecord) → are_tokens_sorted a.tokens ≡ true → are_tokens_sorted b.tokens ≡ true
    → AreBelowLastColumn a.tokens → AreBelowLastColumn b.tokens → HaveSameTraceEverywhere a b
    → length (simplified a).tokens ≤ length b.tokens
