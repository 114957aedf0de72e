-- From original positions to generated ones: which tokens of a map point to a place of a source.
use Rattle.std.specs.Prelude.{◌≡◌, ℕ, ◌+◌, Bool, false, ◌&&◌, List, [], ◌∷◌, filter, length, Option}
use Rattle.std.specs.Prelude.{Some, None, Result, Ok, if◌then◌else◌, nat_le, ◌==◌}
use Rattle.std.specs.List.Sorted.{IsNonDecreasingBy}
use Rattle.oxc_sourcemap_tokens.specs.declared.errors.error.Error.{Error}
use Rattle.oxc_sourcemap_tokens.specs.declared.errors.error.Error.TheVariants.{TooLarge}
use Rattle.oxc_sourcemap_tokens.specs.Errors.{unless}
use Rattle.oxc_sourcemap_tokens.specs.Token.{TokenRecord}
use Rattle.oxc_sourcemap_lookup.specs.Lookup.{in_column, at, at_or_after}

-- whether an id is that of this source
abbrev pub is_source : ℕ → Option ℕ → Bool
is_source source None = false
is_source source (Some id) = id == source

-- whether a token points to this line of this source
abbrev pub is_into : ℕ → ℕ → TokenRecord → Bool
is_into source line t = is_source source t.source_id && t.src_line == line

-- whether a token points to this place in this source
abbrev pub is_at : ℕ → ℕ → ℕ → TokenRecord → Bool
is_at source line col t = is_into source line t && t.src_col == col

-- the source column of a token
abbrev pub source_column : TokenRecord → ℕ
source_column t = t.src_col

-- the tokens that point to a line of a source, in the order of the map
abbrev pub pointing_to : ℕ → ℕ → List TokenRecord → List TokenRecord
pointing_to source line tokens = filter (is_into source line) tokens

-- the tokens that point to exactly this place, in the order of the map
abbrev pub generated_at : ℕ → ℕ → ℕ → List TokenRecord → List TokenRecord
generated_at source line col tokens = filter (is_at source line col) tokens

-- the token of the greatest source column not past the given one, on this line of this source
abbrev pub generated_for : ℕ → ℕ → ℕ → List TokenRecord → Option TokenRecord
generated_for source line col tokens = at source_column (pointing_to source line tokens) col

-- the token of the least source column not before the given one, on this line of this source
abbrev pub generated_from : ℕ → ℕ → ℕ → List TokenRecord → Option TokenRecord
generated_from source line col tokens = at_or_after source_column (pointing_to source line tokens) col

-- all tokens that point where this one does, in the order of the map
abbrev pub all_beside : ℕ → ℕ → Option TokenRecord → List TokenRecord → List TokenRecord
all_beside source line None tokens = []
all_beside source line (Some t) tokens = generated_at source line t.src_col tokens

-- all tokens at the place of `generated_for`, and of `generated_from`
abbrev pub all_generated_for : ℕ → ℕ → ℕ → List TokenRecord → List TokenRecord
all_generated_for source line col tokens = all_beside source line (generated_for source line col tokens) tokens

abbrev pub all_generated_from : ℕ → ℕ → ℕ → List TokenRecord → List TokenRecord
all_generated_from source line col tokens =
    all_beside source line (generated_from source line col tokens) tokens

-- the indices of the items that pass a test, where the first item has this index
abbrev pub passing_from : {A : Type 0} → ℕ → (A → Bool) → List A → List ℕ
passing_from i p [] = []
passing_from i p (x ∷ xs) = if p x then i ∷ passing_from (i + 1) p xs else passing_from (i + 1) p xs

-- the indices of the items that pass a test
abbrev pub passing : {A : Type 0} → (A → Bool) → List A → List ℕ
passing p xs = passing_from 0 p xs

-- the indices of the tokens of `generated_at`
abbrev pub indices_at : ℕ → ℕ → ℕ → List TokenRecord → List ℕ
indices_at source line col tokens = passing (is_at source line col) tokens

-- the indices of the tokens of `all_beside`
abbrev pub indices_beside : ℕ → ℕ → Option TokenRecord → List TokenRecord → List ℕ
indices_beside source line None tokens = []
indices_beside source line (Some t) tokens = indices_at source line t.src_col tokens

-- the indices of the tokens of `all_generated_for`, and of `all_generated_from`
abbrev pub indices_for : ℕ → ℕ → ℕ → List TokenRecord → List ℕ
indices_for source line col tokens = indices_beside source line (generated_for source line col tokens) tokens

abbrev pub indices_from : ℕ → ℕ → ℕ → List TokenRecord → List ℕ
indices_from source line col tokens = indices_beside source line (generated_from source line col tokens) tokens

-- the indices of the tokens of `pointing_to`
abbrev pub indices_on : ℕ → ℕ → List TokenRecord → List ℕ
indices_on source line tokens = passing (is_into source line) tokens

-- These are all tokens that point to a line of a source, by source column, and those of one column in the order of the map.
pub record IsLineByColumn (source line : ℕ) (tokens : List TokenRecord) (found : List TokenRecord) : Type 0 where
  pub order : IsNonDecreasingBy source_column found
  pub each : (col : ℕ) → in_column source_column col found ≡ generated_at source line col tokens

-- the fault of a list of tokens that cannot be indexed: there are too many
abbrev pub index_fault : List TokenRecord → Option Error
index_fault tokens = if nat_le (length tokens) 4294967295 then None else Some TooLarge

-- the tokens that an index has, in the order of the map
abbrev pub indexed : List TokenRecord → Result (List TokenRecord) Error
indexed tokens = unless (index_fault tokens) (Ok tokens)
