-- What simplifying makes of a map: no more mappings than its traces need, and the names and sources that these need, each once,
-- but for sources that are listed both ignored and not.
use Rattle.std.specs.Prelude.{ℕ, ◌+◌, Bool, true, false, ◌&&◌, List, [], ◌∷◌, ◌++◌, map, filter}
use Rattle.std.specs.Prelude.{length, slice_get, Option, Some, None, option_map, Result, Ok, Err}
use Rattle.std.specs.Prelude.{if◌then◌else◌, nat_le}
use Rattle.std.specs.Bool.{beq}
use Rattle.std.specs.List.{filter_map, flat_map, list_any, list_all, position_from}
use Rattle.std.specs.Option.{option_and_then}
use Rattle.oxc_sourcemap_tokens.specs.declared.errors.error.Error.TheVariants.{TooLarge}
use Rattle.oxc_sourcemap_tokens.specs.declared.errors.plan_error.PlanError.{PlanError}
use Rattle.oxc_sourcemap_tokens.specs.declared.errors.plan_error.PlanError.TheVariants.{Map}
use Rattle.oxc_sourcemap_tokens.specs.declared.errors.plan_error.PlanError.TheVariants.{Unsorted}
use Rattle.oxc_sourcemap_tokens.specs.Token.{TokenRecord}
use Rattle.oxc_sourcemap_parts.specs.DecodedMap.{DecodedSource, OriginalPosition, DecodedMapping}
use Rattle.oxc_sourcemap_parts.specs.DecodedMap.{DecodedMap, mapping_line, mapping_column, name_of}
use Rattle.oxc_sourcemap_parts.specs.DecodedMap.{decoded_map_of}
use Rattle.oxc_sourcemap_parts.specs.Record.{Text, MapRecord}
use Rattle.oxc_sourcemap_parts.specs.Sorted.{are_tokens_sorted, token_line, token_column}
use Rattle.oxc_sourcemap_parts.specs.Texts.{index_of, with_texts}
use Rattle.oxc_sourcemap_lookup.specs.Trace.{original_in}
use Rattle.oxc_sourcemap_join.specs.Joined.{is_same_option}
use Rattle.oxc_sourcemap_steps.specs.Blocks.{marked_sources, ignored_ids}
use Rattle.oxc_sourcemap_steps.specs.Same.{is_same_source, is_same_original, point_alike}
use Rattle.oxc_sourcemap_steps.specs.Simple.{found_items, simple_items}

-- ---- mappings
-- a mapping, moved to the next column
abbrev pub at_next_column : DecodedMapping → DecodedMapping
at_next_column e = record e { dst_col = e.dst_col + 1 }

-- the mappings that a lookup may find
abbrev pub found_mappings : List DecodedMapping → List DecodedMapping
found_mappings mappings = found_items mapping_line mapping_column mappings

-- no more mappings than the traces need
abbrev pub simple_mappings : List DecodedMapping → List DecodedMapping
simple_mappings mappings = simple_items mapping_line mapping_column point_alike at_next_column mappings

-- ---- sources
-- Sources are marked with whether they are ignored.
-- equality of marked sources, as a test
abbrev pub is_same_marked : DecodedSource × Bool → DecodedSource × Bool → Bool
is_same_marked a b = is_same_source a.0 b.0 && beq a.1 b.1

-- where a marked source is listed first
abbrev pub index_of_marked : DecodedSource × Bool → List (DecodedSource × Bool) → Option ℕ
index_of_marked source sources = position_from (is_same_marked source) 0 sources

-- A source once for each mark that it is listed with, first the one that is not ignored. Which of them mappings need is not known
-- here: what a mapping points to has no mark.
abbrev pub listings : List (DecodedSource × Bool) → DecodedSource → List (DecodedSource × Bool)
listings marked source = filter (λ m. list_any (is_same_marked m) marked) ((source, false) ∷ (source, true) ∷ [])

-- the list with this source: as it is if it has an equal one, else with this as a new last one
abbrev pub with_source : List DecodedSource → DecodedSource → List DecodedSource
with_source sources source = if list_any (is_same_source source) sources then sources else sources ++ source ∷ []

-- the list with these sources, one after the other
abbrev pub with_sources : List DecodedSource → List DecodedSource → List DecodedSource
with_sources sources [] = sources
with_sources sources (source ∷ more) = with_sources (with_source sources source) more

-- the source that is pointed to, if any
abbrev pub source_in : Option OriginalPosition → Option DecodedSource
source_in o = option_map (λ o. o.source) o

-- the sources that are pointed to, each once, in the order in which they are first needed
abbrev pub needed_sources : List (Option OriginalPosition) → List DecodedSource
needed_sources os = with_sources [] (filter_map source_in os)

-- the marked sources of the simplified map, by those of the map and by what is pointed to
abbrev pub simple_sources : List (DecodedSource × Bool) → List (Option OriginalPosition) → List (DecodedSource × Bool)
simple_sources marked os = flat_map (listings marked) (needed_sources os)

-- ---- decoded maps
-- what the mappings point to that a lookup may find
abbrev pub pointed_to : DecodedMap → List (Option OriginalPosition)
pointed_to s = map (λ e. e.original) (found_mappings s.mappings)

-- the simplified decoded map
abbrev pub simplified_decoded_map : DecodedMap → DecodedMap
simplified_decoded_map s = let sources = simple_sources (marked_sources s) (pointed_to s) in record s {
  ignore_list = ignored_ids sources;
  sources = map (λ m. m.0) sources;
  mappings = simple_mappings s.mappings;
}

-- ---- maps
-- the tokens that a lookup may find
abbrev pub found_tokens : MapRecord → List TokenRecord
found_tokens r = found_items token_line token_column r.tokens

-- what these point to
abbrev pub found_originals : MapRecord → List (Option OriginalPosition)
found_originals r = map (original_in r) (found_tokens r)

-- tokens point to the same
abbrev pub are_alike_in : MapRecord → TokenRecord → TokenRecord → Bool
are_alike_in r t u = is_same_option is_same_original (original_in r t) (original_in r u)

-- a token, moved to the next column
abbrev pub token_at_next_column : TokenRecord → TokenRecord
token_at_next_column t = record t { dst_col = t.dst_col + 1 }

-- no more tokens than the traces need, with the ids that they have in the map
abbrev pub simple_tokens : MapRecord → List TokenRecord
simple_tokens r = simple_items token_line token_column (are_alike_in r) token_at_next_column r.tokens

-- the name that is pointed to, if any
abbrev pub name_in : Option OriginalPosition → Option Text
name_in o = option_and_then (λ o. o.name) o

-- the names of the simplified map: those that are needed, each once, in the order in which they are first needed
abbrev pub simple_names : MapRecord → List Text
simple_names r = with_texts [] (filter_map name_in (found_originals r))

-- the marked sources of the simplified map
abbrev pub simple_sources_of : MapRecord → List (DecodedSource × Bool)
simple_sources_of r = simple_sources (marked_sources (decoded_map_of r)) (found_originals r)

-- the marked source of a token; none if it has no source id, or one out of range
abbrev pub marked_source_of : MapRecord → TokenRecord → Option (DecodedSource × Bool)
marked_source_of r t = option_and_then (slice_get (marked_sources (decoded_map_of r))) t.source_id

-- a token with its ids among these sources and names; one without a source in range is unmapped, at source position 0:0
abbrev pub token_among : List (DecodedSource × Bool) → List Text → Option Text → TokenRecord → Option (DecodedSource × Bool) → TokenRecord
token_among sources names name t None =
    record { dst_line = t.dst_line; dst_col = t.dst_col; src_line = 0; src_col = 0; source_id = None; name_id = None }
token_among sources names name t (Some source) =
    record t { source_id = index_of_marked source sources; name_id = option_and_then (λ name. index_of name names) name }

abbrev pub renumbered : MapRecord → List (DecodedSource × Bool) → List Text → TokenRecord → TokenRecord
renumbered r sources names t = token_among sources names (name_of r.names t) t (marked_source_of r t)

-- The simplified map. File, source root and debug id stay; there are no chunks.
abbrev pub simplified : MapRecord → MapRecord
simplified r = let sources = simple_sources_of r in let names = simple_names r in record r {
  names = names;
  sources = map (λ m. m.0.path) sources;
  source_contents = map (λ m. m.0.content) sources;
  tokens = map (renumbered r sources names) (simple_tokens r);
  token_chunks = None;
  ignore_list = ignored_ids sources;
}

-- names and sources number at most 4294967295 each, and no column is above that
abbrev pub fits : MapRecord → Bool
fits r = nat_le (length r.names) 4294967295 && (nat_le (length r.sources) 4294967295 && list_all (λ t. nat_le t.dst_col 4294967295) r.tokens)

-- The simplification of a map: `Unsorted` if its tokens are not sorted, and `TooLarge` if sources would number above 4294967295, or
-- a token would move past that column.
abbrev pub simplification : MapRecord → Result MapRecord PlanError
simplification r =
    if are_tokens_sorted r.tokens
    then (if fits (simplified r) then Ok (simplified r) else Err (Map TooLarge))
    else Err Unsorted
