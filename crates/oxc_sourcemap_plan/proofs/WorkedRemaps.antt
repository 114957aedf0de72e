-- Remapped decoded maps, their traces, and source roots, computed by the definitions themselves.
use Rattle.std.specs.Prelude.{◌≡◌, refl, ℕ, List, [], ◌∷◌, map, Option, Some, None, codes}
use Rattle.oxc_sourcemap_tokens.specs.declared.position.Position.{Position}
use Rattle.oxc_sourcemap_parts.specs.Record.{Text, MapRecord}
use Rattle.oxc_sourcemap_parts.specs.Roots.{rooted}
use Rattle.oxc_sourcemap_parts.specs.Views.{empty_record}
use Rattle.oxc_sourcemap_parts.specs.DecodedMap.{DecodedSource, OriginalPosition, DecodedMapping}
use Rattle.oxc_sourcemap_parts.specs.DecodedMap.{DecodedMap, decoded_map_of}
use Rattle.oxc_sourcemap_join.specs.Joined.{at_line}
use Rattle.oxc_sourcemap_lookup.specs.Trace.{trace, clamped_trace}
use Rattle.oxc_sourcemap_plan.specs.JoinedDecodedMaps.{joined_decoded_maps}
use Rattle.oxc_sourcemap_plan.specs.ComposedDecodedMaps.{composed_decoded_maps}
use Rattle.oxc_sourcemap_plan.specs.RemappedDecodedMaps.{remapped_decoded_map}
use Rattle.oxc_sourcemap_plan.specs.RemapLaws.{as_remapped, inputs_through}
use Rattle.oxc_sourcemap_plan.specs.RootedDecodedMaps.{rooted_decoded_map}
use Rattle.oxc_sourcemap_plan.specs.TraceLaws.{led_through_inputs}
use Rattle.oxc_sourcemap_plan.proofs.LawsWorked.{token}

-- a source without content
abbrev source : Text → DecodedSource
source path = record { path = path; content = None }

-- a line and a column of a source, with a name or none
abbrev place : Text → ℕ → ℕ → Option Text → OriginalPosition
place path line col name = record { source = source path; src_line = line; src_col = col; name = name }

-- a mapping from a generated line and column
abbrev from : ℕ → ℕ → Option OriginalPosition → DecodedMapping
from line col original = record { dst_line = line; dst_col = col; original = original }

-- a decoded map of these sources and mappings, with this ignore list
abbrev mapping : List Text → Option (List ℕ) → List DecodedMapping → DecodedMap
mapping paths ignored mappings =
    record { file = None; source_root = None; debug_id = None; ignore_list = ignored; sources = map source paths; mappings = mappings }

-- a bundle of two files, one of which it lists twice
abbrev bundle : DecodedMap
bundle = record (mapping (codes "a.js" ∷ codes "b.js" ∷ codes "a.js" ∷ []) (Some (1 ∷ []))
    (from 0 0 (Some (place (codes "a.js") 0 1 (Some (codes "p")))) ∷ from 0 3 (Some (place (codes "b.js") 7 7 (Some (codes "q"))))
    ∷ from 0 5 (Some (place (codes "a.js") 9 9 None)) ∷ from 0 9 (Some (place (codes "a.js") 0 6 None))
    ∷ from 1 0 (Some (place (codes "a.js") 1 0 None)) ∷ [])) { file = Some (codes "out.js"); source_root = Some (codes "/src") }

-- the map of a.js: of two files, of which it ignores the second
abbrev for_a : DecodedMap
for_a = mapping (codes "a.ts" ∷ codes "c.ts" ∷ []) (Some (1 ∷ 1 ∷ 7 ∷ []))
    (from 0 2 (Some (place (codes "c.ts") 4 4 None)) ∷ from 0 5 (Some (place (codes "a.ts") 5 5 (Some (codes "x")))) ∷ from 1 0 None ∷ [])

-- a map of b.js, and one of c.ts
abbrev others : List (Text × DecodedMap)
others = (codes "b.js", mapping (codes "b.ts" ∷ []) None (from 7 0 (Some (place (codes "b.ts") 1 2 None)) ∷ []))
    ∷ (codes "c.ts", mapping (codes "lib.c" ∷ []) None (from 4 0 (Some (place (codes "lib.c") 8 8 None)) ∷ [])) ∷ []

remaps-a_bundle : remapped_decoded_map bundle ((codes "a.js", for_a) ∷ []) ≡ record
    (mapping (codes "a.ts" ∷ codes "c.ts" ∷ codes "b.js" ∷ codes "a.ts" ∷ codes "c.ts" ∷ []) (Some (1 ∷ 2 ∷ 4 ∷ []))
    (from 0 0 (Some (place (codes "c.ts") 4 4 (Some (codes "p")))) ∷ from 0 3 (Some (place (codes "b.js") 7 7 (Some (codes "q"))))
    ∷ from 0 5 None ∷ from 0 9 (Some (place (codes "a.ts") 5 5 (Some (codes "x")))) ∷ from 1 0 None ∷ [])) { file = Some (codes "out.js") }
remaps-a_bundle = refl

-- the bundle led back once more
abbrev led_back : DecodedMap
led_back = record (mapping (codes "a.ts" ∷ codes "lib.c" ∷ codes "b.ts" ∷ codes "a.ts" ∷ codes "lib.c" ∷ []) None
    (from 0 0 (Some (place (codes "lib.c") 8 8 (Some (codes "p")))) ∷ from 0 3 (Some (place (codes "b.ts") 1 2 (Some (codes "q"))))
    ∷ from 0 5 None ∷ from 0 9 (Some (place (codes "a.ts") 5 5 (Some (codes "x")))) ∷ from 1 0 None ∷ [])) { file = Some (codes "out.js") }

remaps-twice : remapped_decoded_map (remapped_decoded_map bundle ((codes "a.js", for_a) ∷ [])) others ≡ led_back
remaps-twice = refl

remaps-once_through_both : remapped_decoded_map bundle (inputs_through ((codes "a.js", for_a) ∷ []) others) ≡ led_back
remaps-once_through_both = refl

-- without the others after them, b.js would stay
remaps-without_the_others : remapped_decoded_map bundle ((codes "a.js", remapped_decoded_map for_a others) ∷ []) ≡ record
    (mapping (codes "a.ts" ∷ codes "lib.c" ∷ codes "b.js" ∷ codes "a.ts" ∷ codes "lib.c" ∷ []) (Some (2 ∷ []))
    (from 0 0 (Some (place (codes "lib.c") 8 8 (Some (codes "p")))) ∷ from 0 3 (Some (place (codes "b.js") 7 7 (Some (codes "q"))))
    ∷ from 0 5 None ∷ from 0 9 (Some (place (codes "a.ts") 5 5 (Some (codes "x")))) ∷ from 1 0 None ∷ [])) { file = Some (codes "out.js") }
remaps-without_the_others = refl

remaps-with_no_inputs : remapped_decoded_map bundle [] ≡ record bundle { source_root = None }
remaps-with_no_inputs = refl

-- an ignore list is written ascending, with each source once, and without entries out of range
writes-an_ignore_list : (as_remapped for_a).ignore_list ≡ Some (1 ∷ [])
writes-an_ignore_list = refl

-- A join with an entry out of range ignores a source of its second part, so the law of joins asks for entries in range.
abbrev out_of_range : List (DecodedMap × Position)
out_of_range = (mapping (codes "a.js" ∷ []) (Some (1 ∷ [])) [], at_line 0) ∷ (mapping (codes "b.js" ∷ []) None [], at_line 1) ∷ []

joins-an_entry_out_of_range : (remapped_decoded_map (joined_decoded_maps out_of_range) []).ignore_list ≡ Some (1 ∷ [])
joins-an_entry_out_of_range = refl

remaps-an_entry_out_of_range : (joined_decoded_maps (map (λ s. (remapped_decoded_map s.0 [], s.1)) out_of_range)).ignore_list ≡ None
remaps-an_entry_out_of_range = refl

-- minified code of the bundle's line 0
abbrev minified : DecodedMap
minified = mapping (codes "out.js" ∷ []) None (from 0 1 (Some (place (codes "out.js") 0 3 None)) ∷ from 0 2 (Some (place (codes "out.js") 0 8 None)) ∷ [])

composes-after_remapping : composed_decoded_maps minified (remapped_decoded_map bundle others) ≡ remapped_decoded_map (composed_decoded_maps minified bundle) others
composes-after_remapping = refl

remaps-one_source : remapped_decoded_map minified ((codes "out.js", bundle) ∷ others) ≡ as_remapped (composed_decoded_maps minified bundle)
remaps-one_source = refl

-- ---- traces
traces-through_the_input_with_the_first_name : trace (remapped_decoded_map bundle ((codes "a.js", for_a) ∷ [])) 0 2 ≡ Some (Some (place (codes "c.ts") 4 4 (Some (codes "p"))))
traces-through_the_input_with_the_first_name = refl

traces-a_source_without_input : trace (remapped_decoded_map bundle ((codes "a.js", for_a) ∷ [])) 0 4 ≡ trace bundle 0 4
traces-a_source_without_input = refl

traces-an_unmapped_mapping_of_the_input : trace (remapped_decoded_map bundle ((codes "a.js", for_a) ∷ [])) 1 0 ≡ Some None
traces-an_unmapped_mapping_of_the_input = refl

-- 0:1 of a.js is in front of the first mapping of its line: the exact trace of the input finds nothing there, the clamped one 0:2
traces-nothing_exactly : trace for_a 0 1 ≡ None
traces-nothing_exactly = refl

leads-clamped : led_through_inputs ((codes "a.js", for_a) ∷ []) (trace bundle 0 0) ≡ Some (Some (place (codes "c.ts") 4 4 (Some (codes "p"))))
leads-clamped = refl

traces-clamped : clamped_trace (remapped_decoded_map minified ((codes "out.js", bundle) ∷ [])) 0 0 ≡ Some (Some (place (codes "b.js") 7 7 (Some (codes "q"))))
traces-clamped = refl

-- ---- source roots
-- a map with this source root, of a relative source, an absolute one, two URLs, one that begins with a digit, and an empty one
abbrev rooted_by : Text → MapRecord
rooted_by root = record empty_record {
  source_root = Some root;
  sources = codes "index.ts" ∷ codes "/abs.ts" ∷ codes "http://x/y.ts" ∷ codes "webpack:y" ∷ codes "1:x" ∷ [] ∷ [];
  tokens = token 0 0 2 3 (Some 0) None ∷ token 0 5 4 4 (Some 1) None ∷ [];
}

roots-with_a_slash : rooted (rooted_by (codes "pkg/a")) ≡ record (rooted_by (codes "pkg/a")) {
  source_root = None;
  sources = codes "pkg/a/index.ts" ∷ codes "/abs.ts" ∷ codes "http://x/y.ts" ∷ codes "webpack:y" ∷ codes "pkg/a/1:x" ∷ codes "pkg/a/" ∷ [];
}
roots-with_a_slash = refl

roots-that_end_in_a_slash : (rooted (rooted_by (codes "pkg/"))).sources ≡ codes "pkg/index.ts" ∷ codes "/abs.ts" ∷ codes "http://x/y.ts" ∷ codes "webpack:y" ∷ codes "pkg/1:x" ∷ codes "pkg/" ∷ []
roots-that_end_in_a_slash = refl

roots-that_are_empty : rooted (rooted_by []) ≡ record (rooted_by []) { source_root = None }
roots-that_are_empty = refl

traces-a_rooted_map : trace (rooted_decoded_map (decoded_map_of (rooted_by (codes "pkg/a")))) 0 1 ≡ Some (Some (place (codes "pkg/a/index.ts") 2 3 None))
traces-a_rooted_map = refl
