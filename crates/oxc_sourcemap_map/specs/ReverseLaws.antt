-- Laws of reverse lookups, over any list of tokens.
use Rattle.std.specs.Prelude.{◌≡◌, ℕ, ◌≤◌, true, List, Some, IfSome}
use Rattle.std.specs.List.{AllByRecursion, Contains}
use Rattle.oxc_sourcemap_tokens.specs.Token.{TokenRecord}
use Rattle.oxc_sourcemap_lookup.specs.Lookup.{token_for}
use Rattle.oxc_sourcemap_map.specs.Reverse.{is_into, is_at, generated_at, generated_for}
use Rattle.oxc_sourcemap_map.specs.Reverse.{generated_from, all_generated_for, pointing_to}
use Rattle.oxc_sourcemap_map.specs.Reverse.{all_generated_from}

-- The lookup of a token's generated position finds a token at that very position.
abbrev pub LookupLeadsBack : Type 0
LookupLeadsBack = (tokens : List TokenRecord) (t : TokenRecord) → Contains tokens t
    → (u : TokenRecord) × (token_for tokens t.dst_line t.dst_col ≡ Some u) × (u.dst_line ≡ t.dst_line) × (u.dst_col ≡ t.dst_col)

-- All tokens that are found at a place point there.
abbrev pub FoundAtPlace : Type 0
FoundAtPlace = (source line col : ℕ) (tokens : List TokenRecord)
    → AllByRecursion (λ t. is_at source line col t ≡ true) (generated_at source line col tokens)

-- All tokens of a line point to it.
abbrev pub FoundOnLine : Type 0
FoundOnLine = (source line : ℕ) (tokens : List TokenRecord)
    → AllByRecursion (λ t. is_into source line t ≡ true) (pointing_to source line tokens)

-- A token that is found for a place points to its line, not past its column.
abbrev pub FoundBefore : Type 0
FoundBefore = (source line col : ℕ) (tokens : List TokenRecord)
    → IfSome (generated_for source line col tokens) (λ t. (is_into source line t ≡ true) × (t.src_col ≤ col))

-- A token that is found from a place on points to its line, not before its column.
abbrev pub FoundAfter : Type 0
FoundAfter = (source line col : ℕ) (tokens : List TokenRecord)
    → IfSome (generated_from source line col tokens) (λ t. (is_into source line t ≡ true) × (col ≤ t.src_col))

-- So do all tokens at the place of one that is found.
abbrev pub AllFoundOnLine : Type 0
AllFoundOnLine = (source line col : ℕ) (tokens : List TokenRecord)
    → AllByRecursion (λ t. is_into source line t ≡ true) (all_generated_for source line col tokens)
    × AllByRecursion (λ t. is_into source line t ≡ true) (all_generated_from source line col tokens)
