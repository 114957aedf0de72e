-- Whether a map is within the limits of joins, as a test: `IsWithinLimits` of `oxc_sourcemap_join` as a `Bool`.
use Rattle.std.specs.Prelude.{ℕ, Bool, true, ◌&&◌, List, length, Option, Some, None, nat_lt}
use Rattle.std.specs.List.{list_all}
use Rattle.oxc_sourcemap_tokens.specs.Token.{TokenRecord}
use Rattle.oxc_sourcemap_parts.specs.Record.{MapRecord}

-- an id is at most 4294967294
abbrev pub is_id_in_bounds : Option ℕ → Bool
is_id_in_bounds None = true
is_id_in_bounds (Some n) = nat_lt n 4294967295

-- lines and columns are at most 4294967295, and ids at most 4294967294
abbrev pub is_token_in_bounds : TokenRecord → Bool
is_token_in_bounds t =
    nat_lt t.dst_line 4294967296 && (nat_lt t.dst_col 4294967296 && (nat_lt t.src_line 4294967296
    && (nat_lt t.src_col 4294967296 && (is_id_in_bounds t.source_id && is_id_in_bounds t.name_id))))

-- the entries of an ignore list, if there is one, are at most 4294967294
abbrev pub are_entries_in_bounds : Option (List ℕ) → Bool
are_entries_in_bounds None = true
are_entries_in_bounds (Some ids) = list_all (λ id. nat_lt id 4294967295) ids

-- at most 4294967295 names, sources and tokens, and all tokens and entries of the ignore list in bounds
abbrev pub is_map_within_limits : MapRecord → Bool
is_map_within_limits r =
    nat_lt (length r.names) 4294967296 && (nat_lt (length r.sources) 4294967296 && (nat_lt (length r.tokens) 4294967296
    && (list_all is_token_in_bounds r.tokens && are_entries_in_bounds r.ignore_list)))
