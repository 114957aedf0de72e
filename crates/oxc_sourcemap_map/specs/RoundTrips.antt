-- Reverse lookups and traces lead back to one another, in any map.
use Rattle.std.specs.Prelude.{◌≡◌, ℕ, ◌&&◌, ◌==◌, List, filter, slice_get, Option, Some, option_map}
use Rattle.std.specs.Prelude.{IfSome}
use Rattle.std.specs.List.{AllByRecursion, Contains, IsDistinct}
use Rattle.oxc_sourcemap_tokens.specs.Token.{TokenRecord}
use Rattle.oxc_sourcemap_parts.specs.DecodedMap.{OriginalPosition, name_of, decoded_map_of}
use Rattle.oxc_sourcemap_parts.specs.Record.{Text, MapRecord}
use Rattle.oxc_sourcemap_parts.specs.Sorted.{token_line, token_column}
use Rattle.oxc_sourcemap_lookup.specs.Lookup.{first, token_for, clamped_token_for}
use Rattle.oxc_sourcemap_lookup.specs.Trace.{trace}
use Rattle.oxc_sourcemap_steps.specs.Simple.{are_together}
use Rattle.oxc_sourcemap_map.specs.Reverse.{generated_at, generated_for, generated_from}
use Rattle.oxc_sourcemap_map.specs.Reverse.{all_generated_for, all_generated_from, pointing_to}

-- no two tokens have the same generated position
abbrev pub HaveDistinctPositions : List TokenRecord → Type 0
HaveDistinctPositions tokens = IsDistinct (are_together token_line token_column) tokens

-- the tokens at a generated position, in the order of the map
abbrev pub tokens_at : ℕ → ℕ → List TokenRecord → List TokenRecord
tokens_at line col tokens = filter (λ t. t.dst_line == line && t.dst_col == col) tokens

-- a token is the first at its generated position
abbrev pub IsFirstThere : List TokenRecord → TokenRecord → Type 0
IsFirstThere tokens t = first (tokens_at t.dst_line t.dst_col tokens) ≡ Some t

-- the original position of this line and column of the source with this id, and with this name; none if the id is out of range
abbrev pub position_in_source : MapRecord → ℕ → ℕ → ℕ → Option Text → Option OriginalPosition
position_in_source r source line col name =
    option_map (λ s. record { source = s; src_line = line; src_col = col; name = name }) (slice_get (decoded_map_of r).sources source)

-- The lookup of the generated position of a token finds this token, and the trace there is this line and column of the source with
-- this id, with the name of the token.
pub record TracesBack (r : MapRecord) (source line col : ℕ) (t : TokenRecord) : Type 0 where
  pub found : token_for r.tokens t.dst_line t.dst_col ≡ Some t
  pub traced : trace (decoded_map_of r) t.dst_line t.dst_col ≡ Some (position_in_source r source line col (name_of r.names t))

-- A statement on a source column and a token holds of each token that a reverse lookup of a line finds, and the column where it
-- finds it: the one that was asked (`at`), or the nearest one that has a token.
pub record HoldsOfFound (tokens : List TokenRecord) (source line : ℕ) (Holds : ℕ → TokenRecord → Type 0) : Type 0 where
  pub at : (col : ℕ) → AllByRecursion (Holds col) (generated_at source line col tokens)
  pub nearest_before : (col : ℕ) → IfSome (generated_for source line col tokens) (λ t. Holds t.src_col t)
  pub nearest_after : (col : ℕ) → IfSome (generated_from source line col tokens) (λ t. Holds t.src_col t)
  pub all_before : (col : ℕ) → AllByRecursion (λ t. Holds t.src_col t) (all_generated_for source line col tokens)
  pub all_after : (col : ℕ) → AllByRecursion (λ t. Holds t.src_col t) (all_generated_from source line col tokens)
  pub on_line : AllByRecursion (λ t. Holds t.src_col t) (pointing_to source line tokens)

-- Where generated positions are distinct, each token that is found traces back to where it was found.
abbrev pub FoundTracesBack : Type 0
FoundTracesBack = (r : MapRecord) (source line : ℕ) → HaveDistinctPositions r.tokens
    → HoldsOfFound r.tokens source line (λ col t. TracesBack r source line col t)

-- In any map that holds of each token that is found and is the first at its generated position.
abbrev pub FirstTracesBack : Type 0
FirstTracesBack = (r : MapRecord) (source line : ℕ)
    → HoldsOfFound r.tokens source line (λ col t. IsFirstThere r.tokens t → TracesBack r source line col t)

-- a token is found where it points to, if it is mapped
abbrev pub IsFoundAgain : List TokenRecord → TokenRecord → Type 0
IsFoundAgain tokens t = IfSome t.source_id (λ source. Contains (generated_at source t.src_line t.src_col tokens) t)

-- The other way round: the token that a lookup by generated position finds, clamped or not, is among those that are found where it
-- points to.
abbrev pub TracedIsFound : Type 0
TracedIsFound = (tokens : List TokenRecord) (line col : ℕ)
    → IfSome (token_for tokens line col) (IsFoundAgain tokens) × IfSome (clamped_token_for tokens line col) (IsFoundAgain tokens)
