-- Worked examples of laws, computed by the definitions themselves.
use Rattle.std.specs.Prelude.{◌≡◌, refl, ℕ, true, false, List, [], ◌∷◌, Option, Some, None}
use Rattle.oxc_sourcemap_tokens.specs.Token.{TokenRecord}
use Rattle.oxc_sourcemap_parts.specs.Record.{Text, MapRecord}
use Rattle.oxc_sourcemap_parts.specs.Views.{empty_record}
use Rattle.oxc_sourcemap_parts.specs.DecodedMap.{DecodedMapping, decoded_map_of}
use Rattle.oxc_sourcemap_lookup.specs.Trace.{trace}
use Rattle.oxc_sourcemap_tokens.specs.declared.position.Position.{Position}
use Rattle.oxc_sourcemap_join.specs.Joined.{at_line, at_lines, joined, shifted}
use Rattle.oxc_sourcemap_plan.specs.Repeats.{decoded_map_without_repeats, EqualUpToRepeats}
use Rattle.oxc_sourcemap_plan.specs.Repeats.{is_sorted_decoded_map}
use Rattle.oxc_sourcemap_plan.specs.JoinedDecodedMaps.{joined_decoded_maps}
use Rattle.oxc_sourcemap_plan.specs.JoinLaws.{decoded_maps_of, Group, groups_joined, maps_of}
use Rattle.oxc_sourcemap_plan.specs.JoinLaws.{without_chunks}

-- a token: generated line and column, source line and column, source id, name id
abbrev pub token : ℕ → ℕ → ℕ → ℕ → Option ℕ → Option ℕ → TokenRecord
token dst_line dst_col src_line src_col source_id name_id =
    record { dst_line = dst_line; dst_col = dst_col; src_line = src_line; src_col = src_col; source_id = source_id; name_id = name_id }

-- a map of these sources and these tokens
abbrev plain : List Text → List TokenRecord → MapRecord
plain sources tokens = record empty_record { sources = sources; tokens = tokens }

-- a mapping without original position
abbrev unmapped : ℕ → ℕ → DecodedMapping
unmapped dst_line dst_col = record { dst_line = dst_line; dst_col = dst_col; original = None }

-- the first token of the second map, moved down, equals the last token of the first
abbrev a_seam : List (MapRecord × ℕ)
a_seam = (plain [] (token 0 0 0 0 None None ∷ token 2 3 0 0 None None ∷ []), 0) ∷ (plain [] (token 0 3 0 0 None None ∷ token 1 9 0 0 None None ∷ []), 2) ∷ []

joins-with_a_seam : (decoded_map_of (joined (at_lines a_seam))).mappings ≡ unmapped 0 0 ∷ unmapped 2 3 ∷ unmapped 3 9 ∷ []
joins-with_a_seam = refl

joins-decoded_maps_without_a_seam : (joined_decoded_maps (decoded_maps_of (at_lines a_seam))).mappings ≡ unmapped 0 0 ∷ unmapped 2 3 ∷ unmapped 2 3 ∷ unmapped 3 9 ∷ []
joins-decoded_maps_without_a_seam = refl

joins-up_to_repeats : EqualUpToRepeats (decoded_map_of (joined (at_lines a_seam))) (joined_decoded_maps (decoded_maps_of (at_lines a_seam)))
joins-up_to_repeats = refl

squeezes-what_repeats : (decoded_map_without_repeats (joined_decoded_maps (decoded_maps_of (at_lines a_seam)))).mappings ≡ unmapped 0 0 ∷ unmapped 2 3 ∷ unmapped 3 9 ∷ []
squeezes-what_repeats = refl

traces-after_what_repeats : trace (joined_decoded_maps (decoded_maps_of (at_lines a_seam))) 2 5 ≡ Some None
traces-after_what_repeats = refl

joins-sorted : is_sorted_decoded_map (joined_decoded_maps (decoded_maps_of (at_lines a_seam))) ≡ true
joins-sorted = refl

-- a first line that joins the line of the map before it
joins-not_sorted : is_sorted_decoded_map (joined_decoded_maps (decoded_maps_of (at_lines ((plain [] (token 0 4 0 0 None None ∷ []), 0) ∷ (plain [] (token 0 0 0 0 None None ∷ []), 0) ∷ [])))) ≡ false
joins-not_sorted = refl

-- two groups; the only token of the second group's map is left out
abbrev two_groups : List Group
two_groups = (a_seam, 1) ∷ ((plain [] (token 0 9 0 0 None None ∷ []), 1) ∷ [], 3) ∷ []

groups-left_empty : (joined (groups_joined two_groups)).tokens ≡ token 1 0 0 0 None None ∷ token 3 3 0 0 None None ∷ token 4 9 0 0 None None ∷ []
groups-left_empty = refl

groups-as_one : without_chunks (joined (groups_joined two_groups)) ≡ without_chunks (joined (maps_of two_groups))
groups-as_one = refl

-- a chunk for each group, or for each map
groups-have_a_chunk_each : (joined (groups_joined two_groups)).token_chunks ≡ Some (record { start = 0; end = 3; prev_dst_line = 0; prev_dst_col = 0; prev_src_line = 0; prev_src_col = 0; prev_name_id = 0; prev_source_id = 0 } ∷ record { start = 3; end = 3; prev_dst_line = 4; prev_dst_col = 9; prev_src_line = 0; prev_src_col = 0; prev_name_id = 0; prev_source_id = 0 } ∷ [])
groups-have_a_chunk_each = refl

-- Ids are numbers without limit: one that does not fit in a token any more is still an id, and not none.
shifts-the_last_id : shifted 0 1 (at_line 0) (token 0 0 0 0 (Some 4294967294) None) ≡ token 0 0 0 0 (Some 4294967295) None
shifts-the_last_id = refl

-- a map of one source, with this ignore list
abbrev ignoring : Option (List ℕ) → MapRecord
ignoring list = record (plain ((0 ∷ []) ∷ []) []) { ignore_list = list }

-- three maps; the ignore lists of the first and the third have one entry each
abbrev some_ignored : List (MapRecord × ℕ)
some_ignored = (ignoring (Some (0 ∷ [])), 0) ∷ (ignoring None, 1) ∷ (ignoring (Some (0 ∷ [])), 2) ∷ []

joins-ignore_lists_of_decoded_maps : (joined_decoded_maps (decoded_maps_of (at_lines some_ignored))).ignore_list ≡ Some (0 ∷ 2 ∷ [])
joins-ignore_lists_of_decoded_maps = refl

groups-with_ignore_lists : (joined (groups_joined ((some_ignored, 0) ∷ (some_ignored, 3) ∷ []))).ignore_list ≡ Some (0 ∷ 2 ∷ 3 ∷ 5 ∷ [])
groups-with_ignore_lists = refl

-- ---- at a line and a column
-- the second map begins where the first one ends, and its line 1 at column 0
abbrev side_by_side : List (MapRecord × Position)
side_by_side = (plain [] (token 0 4 0 0 None None ∷ []), at_line 0) ∷ (plain [] (token 0 0 0 0 None None ∷ token 0 3 0 0 None None ∷ token 1 2 0 0 None None ∷ []), record { line = 0; column = 4 }) ∷ []

joins-side_by_side : (joined side_by_side).tokens ≡ token 0 4 0 0 None None ∷ token 0 7 0 0 None None ∷ token 1 2 0 0 None None ∷ []
joins-side_by_side = refl

joins-decoded_maps_side_by_side : (joined_decoded_maps (decoded_maps_of side_by_side)).mappings ≡ unmapped 0 4 ∷ unmapped 0 4 ∷ unmapped 0 7 ∷ unmapped 1 2 ∷ []
joins-decoded_maps_side_by_side = refl

joins-side_by_side_sorted : is_sorted_decoded_map (joined_decoded_maps (decoded_maps_of side_by_side)) ≡ true
joins-side_by_side_sorted = refl
