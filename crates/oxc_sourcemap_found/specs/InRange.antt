-- Tokens whose ids are out of range.
use Rattle.std.specs.Prelude.{ℕ, Bool, false, ◌&&◌, not, List, [], ◌∷◌, map, length, count_by}
use Rattle.std.specs.Prelude.{Option, None, if◌then◌else◌, nat_lt, ◌==◌}
use Rattle.std.specs.Option.{option_map_or}
use Rattle.oxc_sourcemap_tokens.specs.Token.{TokenRecord}
use Rattle.oxc_sourcemap_parts.specs.Record.{MapRecord}
use Rattle.oxc_sourcemap_found.specs.declared.mending.mend.MendKind.{MendKind}
use Rattle.oxc_sourcemap_found.specs.declared.mending.mend.MendKind.TheVariants.{SourceIds, NameIds}

-- an id is not below a count
abbrev pub is_past : ℕ → Option ℕ → Bool
is_past count id = option_map_or (λ n. not (nat_lt n count)) id false

-- a token whose source id is out of range
abbrev pub has_bad_source : ℕ → TokenRecord → Bool
has_bad_source sources t = is_past sources t.source_id

-- a token whose source id is not out of range, but whose name id is
abbrev pub has_bad_name : ℕ → ℕ → TokenRecord → Bool
has_bad_name names sources t = not (has_bad_source sources t) && is_past names t.name_id

-- a token as it is read: unmapped, at source position 0:0 and without a name, if its source id is out of range, and without a
-- name if its name id is
abbrev pub token_in_range : ℕ → ℕ → TokenRecord → TokenRecord
token_in_range names sources t =
    if has_bad_source sources t then record t { src_line = 0; src_col = 0; source_id = None; name_id = None }
    else if is_past names t.name_id then record t { name_id = None }
    else t

-- a map with its tokens as they are read
abbrev pub map_in_range : MapRecord → MapRecord
map_in_range r = record r { tokens = map (token_in_range (length r.names) (length r.sources)) r.tokens }

-- a count, if it is not 0
abbrev pub counted : (ℕ → MendKind) → ℕ → List MendKind
counted kind n = if n == 0 then [] else kind n ∷ []

-- what was mended in the source ids of a map
abbrev pub source_kinds : MapRecord → List MendKind
source_kinds r = counted SourceIds (count_by (has_bad_source (length r.sources)) r.tokens)

-- what was mended in its other name ids
abbrev pub name_kinds : MapRecord → List MendKind
name_kinds r = counted NameIds (count_by (has_bad_name (length r.names) (length r.sources)) r.tokens)
