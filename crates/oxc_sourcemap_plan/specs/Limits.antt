-- Whether counts, lines and columns stay within the limits of a map.
use Rattle.std.specs.Prelude.{Bool, true, ◌&&◌, List, length, Result, Ok, Err, nat_le}
use Rattle.std.specs.List.{list_all}
use Rattle.oxc_sourcemap_parts.specs.Record.{Text}
use Rattle.oxc_sourcemap_parts.specs.DecodedMap.{DecodedMapping, DecodedMap}
use Rattle.oxc_sourcemap_tokens.specs.declared.position.Position.{Position}
use Rattle.oxc_sourcemap_plan.specs.JoinedDecodedMaps.{joined_decoded_maps}
use Rattle.oxc_sourcemap_tokens.specs.declared.errors.plan_error.PlanError.{PlanError}
use Rattle.oxc_sourcemap_plan.specs.Meaning.{Meaning}

-- names, sources and mappings number at most 4294967295
abbrev pub are_counts_within_limits : List Text → DecodedMap → Bool
are_counts_within_limits names s = nat_le (length names) 4294967295 && (nat_le (length s.sources) 4294967295 && nat_le (length s.mappings) 4294967295)

-- a mapping's line and column are at most 4294967295
abbrev pub is_position_within_limits : DecodedMapping → Bool
is_position_within_limits e = nat_le e.dst_line 4294967295 && nat_le e.dst_col 4294967295

-- the lines and columns of all mappings are at most 4294967295
abbrev pub are_positions_within_limits : List DecodedMapping → Bool
are_positions_within_limits mappings = list_all is_position_within_limits mappings

-- a part with these names and this meaning is within the limits; a part that means an error counts nothing
abbrev pub is_part_within_limits : List Text → Meaning → Bool
is_part_within_limits names (Err e) = true
is_part_within_limits names (Ok s) = are_counts_within_limits names s

-- A simplified map with these names and this meaning is within the limits: a token that moves to the next column may pass the last
-- one. A part that means an error counts nothing.
abbrev pub is_simplified_within_limits : List Text → Meaning → Bool
is_simplified_within_limits names (Err e) = true
is_simplified_within_limits names (Ok s) = are_counts_within_limits names s && are_positions_within_limits s.mappings

-- a join of these decoded maps, with these names, is within the limits; it counts even if it is not sorted
abbrev pub is_join_within_limits : List Text → Result (List (DecodedMap × Position)) PlanError → Bool
is_join_within_limits names (Err e) = true
is_join_within_limits names (Ok decoded_maps) =
    are_counts_within_limits names (joined_decoded_maps decoded_maps) && are_positions_within_limits (joined_decoded_maps decoded_maps).mappings
