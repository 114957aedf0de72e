-- Traces of compositions and joins, computed by the definitions themselves.
use Rattle.std.specs.Prelude.{◌≡◌, refl, ℕ, true, List, [], ◌∷◌, Option, Some, None, codes}
use Rattle.oxc_sourcemap_parts.specs.Record.{Text}
use Rattle.oxc_sourcemap_parts.specs.DecodedMap.{OriginalPosition, DecodedMapping, DecodedMap}
use Rattle.oxc_sourcemap_lookup.specs.Trace.{trace, clamped_trace}
use Rattle.oxc_sourcemap_plan.specs.Repeats.{is_sorted_decoded_map}
use Rattle.oxc_sourcemap_plan.specs.JoinedDecodedMaps.{joined_decoded_maps}
use Rattle.oxc_sourcemap_plan.specs.ComposedDecodedMaps.{composed_decoded_maps}
use Rattle.oxc_sourcemap_plan.specs.TraceLaws.{led_through, Part, part_at, clamped_part_at}
use Rattle.oxc_sourcemap_plan.specs.TraceLaws.{trace_in}

-- a line and a column of one source, with a name or none
abbrev place : ℕ → ℕ → Option Text → OriginalPosition
place line col name = record { source = record { path = codes "a"; content = None }; src_line = line; src_col = col; name = name }

-- a mapping from a generated line and column
abbrev from : ℕ → ℕ → Option OriginalPosition → DecodedMapping
from line col original = record { dst_line = line; dst_col = col; original = original }

-- a decoded map of these mappings
abbrev mapping : List DecodedMapping → DecodedMap
mapping mappings = record { file = None; source_root = None; debug_id = None; ignore_list = None; sources = []; mappings = mappings }

-- ---- compositions
-- to intermediate code: 0:2 to 5:7, with a name; 0:4 to nothing; 0:6 to 5:0; 0:8 to 9:9
abbrev outer : DecodedMap
outer = mapping (from 0 2 (Some (place 5 7 (Some (codes "n")))) ∷ from 0 4 None ∷ from 0 6 (Some (place 5 0 None)) ∷ from 0 8 (Some (place 9 9 None)) ∷ [])

-- from intermediate code: 5:3 to 1:1, and 5:8 to nothing
abbrev inner : DecodedMap
inner = mapping (from 5 3 (Some (place 1 1 None)) ∷ from 5 8 None ∷ [])

traces-through_with_the_outer_name : trace (composed_decoded_maps outer inner) 0 3 ≡ Some (Some (place 1 1 (Some (codes "n"))))
traces-through_with_the_outer_name = refl

traces-through_unmapped : trace (composed_decoded_maps outer inner) 0 5 ≡ Some None
traces-through_unmapped = refl

-- 5:0 is in front of the first mapping of its line: the exact trace of the second map finds nothing there, the clamped one 5:3
traces-through_clamped : trace (composed_decoded_maps outer inner) 0 6 ≡ Some (Some (place 1 1 None))
traces-through_clamped = refl

traces-nothing_exactly : trace inner 5 0 ≡ None
traces-nothing_exactly = refl

traces-through_nothing_found : trace (composed_decoded_maps outer inner) 0 8 ≡ Some None
traces-through_nothing_found = refl

traces-nothing : trace (composed_decoded_maps outer inner) 0 1 ≡ None
traces-nothing = refl

traces-nothing_but_clamped : clamped_trace (composed_decoded_maps outer inner) 0 1 ≡ Some (Some (place 1 1 (Some (codes "n"))))
traces-nothing_but_clamped = refl

leads-through : led_through inner (trace outer 0 3) ≡ Some (Some (place 1 1 (Some (codes "n"))))
leads-through = refl

leads-through_clamped : led_through inner (trace outer 0 6) ≡ Some (Some (place 1 1 None))
leads-through_clamped = refl

-- ---- joins
-- two parts side by side: the first has a mapping at its end, 0:4, where the second begins
abbrev end : Part
end = (mapping (from 0 0 (Some (place 0 0 None)) ∷ from 0 4 (Some (place 0 4 None)) ∷ []), record { line = 0; column = 0 })

abbrev beginning : Part
beginning = (mapping (from 0 0 (Some (place 7 0 None)) ∷ from 1 2 (Some (place 8 2 None)) ∷ []), record { line = 0; column = 4 })

abbrev two_parts : List Part
two_parts = end ∷ beginning ∷ []

joins-two_parts_in_order : is_sorted_decoded_map (joined_decoded_maps two_parts) ≡ true
joins-two_parts_in_order = refl

-- at the position itself the first part answers, and behind it the second
answers-where_both_have_a_mapping : part_at 0 4 two_parts ≡ Some end
answers-where_both_have_a_mapping = refl

traces-where_both_have_a_mapping : trace (joined_decoded_maps two_parts) 0 4 ≡ Some (Some (place 0 4 None))
traces-where_both_have_a_mapping = refl

traces-the_second_there : trace_in 0 4 beginning ≡ Some (Some (place 7 0 None))
traces-the_second_there = refl

traces-behind_it : trace (joined_decoded_maps two_parts) 0 5 ≡ Some (Some (place 7 0 None))
traces-behind_it = refl

-- line 1 has the second part alone, whose column there is that of the join
traces-on_its_own_line : trace (joined_decoded_maps two_parts) 1 3 ≡ trace beginning.0 1 3
traces-on_its_own_line = refl

answers-nowhere : part_at 1 1 two_parts ≡ None
answers-nowhere = refl

answers-clamped : clamped_part_at 1 1 two_parts ≡ Some beginning
answers-clamped = refl
