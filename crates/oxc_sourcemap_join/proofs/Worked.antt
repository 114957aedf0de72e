-- Worked examples of joins, computed by the definitions themselves.
use Rattle.std.specs.Prelude.{◌≡◌, refl, ℕ, true, false, List, [], ◌∷◌, codes, map, Option, Some}
use Rattle.std.specs.Prelude.{None}
use Rattle.oxc_sourcemap_tokens.specs.declared.token.TokenChunk.{TokenChunk}
use Rattle.oxc_sourcemap_tokens.specs.Token.{TokenRecord}
use Rattle.oxc_sourcemap_parts.specs.Record.{MapRecord}
use Rattle.oxc_sourcemap_parts.specs.Sorted.{are_tokens_sorted}
use Rattle.oxc_sourcemap_parts.specs.Views.{empty_record}
use Rattle.oxc_sourcemap_tokens.specs.declared.position.Position.{Position}
use Rattle.oxc_sourcemap_join.specs.Joined.{at_lines, shifted, joined}

-- a token from its generated line and column, source line and column, source id, name id
abbrev token : ℕ → ℕ → ℕ → ℕ → Option ℕ → Option ℕ → TokenRecord
token dst_line dst_col src_line src_col source_id name_id =
    record { dst_line = dst_line; dst_col = dst_col; src_line = src_line; src_col = src_col; source_id = source_id; name_id = name_id }

-- a chunk from its start, its end, and its header: generated line and column, source line and column, name id, source id
abbrev chunk : ℕ → ℕ → ℕ → ℕ → ℕ → ℕ → ℕ → ℕ → TokenChunk
chunk start end dst_line dst_col src_line src_col name_id source_id =
    record { start = start; end = end; prev_dst_line = dst_line; prev_dst_col = dst_col; prev_src_line = src_line; prev_src_col = src_col; prev_name_id = name_id; prev_source_id = source_id }

-- a map of these names, of these sources, and of these tokens
abbrev plain : List (List ℕ) → List (List ℕ) → List TokenRecord → MapRecord
plain names sources tokens = record empty_record { names = names; sources = sources; tokens = tokens }

-- a join of maps that each begin a line
abbrev joined_at_lines : List (MapRecord × ℕ) → MapRecord
joined_at_lines maps = joined (at_lines maps)

-- a join of two maps, the second without tokens
abbrev pub one_source_each : MapRecord
one_source_each = joined_at_lines (
    (plain [] (codes "a.js" ∷ []) (token 0 0 5 3 (Some 0) None ∷ []), 0)
    ∷ (plain [] (codes "b.js" ∷ []) [], 0)
    ∷ (plain [] (codes "c.js" ∷ []) (token 0 2 1 1 (Some 0) None ∷ []), 1)
    ∷ []
    )

joins-after_a_map_without_tokens : one_source_each.tokens ≡ token 0 0 5 3 (Some 0) None ∷ token 1 2 1 1 (Some 2) None ∷ []
joins-after_a_map_without_tokens = refl

joins-with_an_empty_chunk : one_source_each.token_chunks ≡ Some (chunk 0 1 0 0 0 0 0 0 ∷ chunk 1 1 0 0 5 3 0 0 ∷ chunk 1 2 0 0 5 3 0 0 ∷ [])
joins-with_an_empty_chunk = refl

-- a join with an unmapped token that has a name, which does not count for the header
abbrev pub three_names : MapRecord
three_names = joined_at_lines (
    (plain (codes "x" ∷ codes "y" ∷ codes "z" ∷ []) (codes "a.js" ∷ []) (token 0 0 0 0 (Some 0) (Some 0) ∷ token 0 1 0 0 None (Some 2) ∷ []), 0)
    ∷ (plain (codes "w" ∷ []) (codes "b.js" ∷ []) (token 0 0 0 0 (Some 0) (Some 0) ∷ []), 1)
    ∷ []
    )

joins-after_an_unmapped_token_with_a_name : three_names.tokens ≡ token 0 0 0 0 (Some 0) (Some 0) ∷ token 0 1 0 0 None (Some 2) ∷ token 1 0 0 0 (Some 1) (Some 3) ∷ []
joins-after_an_unmapped_token_with_a_name = refl

joins-without_the_name_of_an_unmapped_token : three_names.token_chunks ≡ Some (chunk 0 2 0 0 0 0 0 0 ∷ chunk 2 3 0 1 0 0 0 0 ∷ [])
joins-without_the_name_of_an_unmapped_token = refl

-- a join of two maps, where the only token of the second repeats that of the first
abbrev pub unmapped_twice : MapRecord
unmapped_twice = joined_at_lines ((plain [] [] (token 0 0 0 0 None None ∷ []), 0) ∷ (plain [] [] (token 0 0 0 0 None None ∷ []), 0) ∷ [])

joins-once_what_repeats : unmapped_twice.tokens ≡ token 0 0 0 0 None None ∷ []
joins-once_what_repeats = refl

joins-an_empty_chunk_where_all_repeats : unmapped_twice.token_chunks ≡ Some (chunk 0 1 0 0 0 0 0 0 ∷ chunk 1 1 0 0 0 0 0 0 ∷ [])
joins-an_empty_chunk_where_all_repeats = refl

joins-contents_padded : (joined_at_lines ((plain [] (codes "a.js" ∷ []) [], 0) ∷ (record (plain [] (codes "b.js" ∷ []) []) { source_contents = Some (codes "B") ∷ [] }, 1) ∷ [])).source_contents ≡ None ∷ Some (codes "B") ∷ []
joins-contents_padded = refl

joins-contents_cut : (joined_at_lines ((record (plain [] (codes "a.js" ∷ []) []) { source_contents = Some (codes "A") ∷ Some (codes "EXTRA") ∷ [] }, 0) ∷ (record (plain [] (codes "b.js" ∷ []) []) { source_contents = Some (codes "B") ∷ [] }, 1) ∷ [])).source_contents ≡ Some (codes "A") ∷ Some (codes "B") ∷ []
joins-contents_cut = refl

-- a map of these sources, with this ignore list
abbrev ignoring : List (List ℕ) → Option (List ℕ) → MapRecord
ignoring sources list = record (plain [] sources []) { ignore_list = list }

joins-ignore_lists_raised : (joined_at_lines ((ignoring (codes "a.js" ∷ []) (Some (0 ∷ [])), 0) ∷ (ignoring (codes "b.js" ∷ codes "c.js" ∷ []) (Some (1 ∷ [])), 1) ∷ [])).ignore_list ≡ Some (0 ∷ 2 ∷ [])
joins-ignore_lists_raised = refl

joins-without_an_ignore_list : (joined_at_lines ((ignoring (codes "a.js" ∷ []) None, 0) ∷ (ignoring (codes "b.js" ∷ []) None, 1) ∷ [])).ignore_list ≡ None
joins-without_an_ignore_list = refl

joins-an_empty_ignore_list : (joined_at_lines ((ignoring (codes "a.js" ∷ []) (Some []), 0) ∷ (ignoring (codes "b.js" ∷ []) None, 1) ∷ [])).ignore_list ≡ Some []
joins-an_empty_ignore_list = refl

joins-entries_that_repeat : (joined_at_lines ((ignoring (codes "a.js" ∷ []) None, 0) ∷ (ignoring (codes "b.js" ∷ []) (Some (0 ∷ 0 ∷ [])), 1) ∷ [])).ignore_list ≡ Some (1 ∷ 1 ∷ [])
joins-entries_that_repeat = refl

-- an entry of an ignore list past the last id; such a join is not within limits
joins-an_entry_past_the_limit : (joined_at_lines ((ignoring (codes "a.js" ∷ []) None, 0) ∷ (ignoring [] (Some (4294967294 ∷ [])), 1) ∷ [])).ignore_list ≡ Some (4294967295 ∷ [])
joins-an_entry_past_the_limit = refl

-- ---- joins at a line and a column
abbrev at : ℕ → ℕ → Position
at line column = record { line = line; column = column }

-- the maps of AAAA,IAAI with a.js (`left`), and of AAAA;AACA with b.js (`right`)
abbrev left : MapRecord
left = plain [] (codes "a.js" ∷ []) (token 0 0 0 0 (Some 0) None ∷ token 0 4 0 4 (Some 0) None ∷ [])

abbrev right : MapRecord
right = plain [] (codes "b.js" ∷ []) (token 0 0 0 0 (Some 0) None ∷ token 1 0 1 0 (Some 0) None ∷ [])

-- a join of two maps, where the second begins on line 0, at this column
abbrev pub side_by_side : ℕ → MapRecord
side_by_side column = joined ((left, at 0 0) ∷ (right, at 0 column) ∷ [])

-- line 0 of the second map is moved to the right, and line 1 is not
joins-at_column_10 : (side_by_side 10).tokens
    ≡ token 0 0 0 0 (Some 0) None ∷ token 0 4 0 4 (Some 0) None ∷ token 0 10 0 0 (Some 1) None ∷ token 1 0 1 0 (Some 1) None ∷ []
joins-at_column_10 = refl

sorts-at_column_10 : are_tokens_sorted (side_by_side 10).tokens ≡ true
sorts-at_column_10 = refl

-- a join is sorted, too, if two maps meet at one position
sorts-at_column_4 : are_tokens_sorted (side_by_side 4).tokens ≡ true
sorts-at_column_4 = refl

sorts-not_at_column_3 : are_tokens_sorted (side_by_side 3).tokens ≡ false
sorts-not_at_column_3 = refl

-- a column past the last one; such a join is not within limits
shifts-a_column_past_the_limit : shifted 0 0 (at 0 4294967295) (token 0 1 0 0 None None) ≡ token 0 4294967296 0 0 None None
shifts-a_column_past_the_limit = refl

-- at a lower line, too, the column of the offset counts only for the first line of the map
shifts-line_0_alone : map (shifted 0 0 (at 7 5)) (token 0 2 0 0 None None ∷ token 1 2 0 0 None None ∷ []) ≡ token 7 7 0 0 None None ∷ token 8 2 0 0 None None ∷ []
shifts-line_0_alone = refl
