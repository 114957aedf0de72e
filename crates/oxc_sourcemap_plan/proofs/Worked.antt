-- Worked examples of what plans mean, computed by the definitions themselves.
use Rattle.std.specs.Prelude.{◌≡◌, refl, ℕ, true, false, List, [], ◌∷◌, codes, Option, Some, None}
use Rattle.std.specs.Prelude.{Ok, Err}
use Rattle.oxc_sourcemap_tokens.specs.declared.errors.error.Error.TheVariants.{BadJson}
use Rattle.oxc_sourcemap_tokens.specs.declared.errors.error.Error.TheVariants.{SeveralSources}
use Rattle.oxc_sourcemap_tokens.specs.declared.errors.error.JsonFault.TheVariants.{Reading}
use Rattle.oxc_sourcemap_tokens.specs.Token.{TokenRecord}
use Rattle.oxc_sourcemap_parts.specs.Record.{Text, MapRecord}
use Rattle.oxc_sourcemap_parts.specs.Views.{empty_record}
use Rattle.oxc_sourcemap_parts.specs.DecodedMap.{DecodedMapping}
use Rattle.oxc_sourcemap_tokens.specs.declared.errors.plan_error.PlanError.TheVariants.{Map}
use Rattle.oxc_sourcemap_tokens.specs.declared.errors.plan_error.PlanError.TheVariants.{Unsorted}
use Rattle.oxc_sourcemap_join.specs.Joined.{at_lines}
use Rattle.oxc_sourcemap_plan.specs.Meaning.{Meaning}
use Rattle.oxc_sourcemap_plan.specs.Outcome.{Outcome, plain_outcome, rewrite_outcome, join_outcome}
use Rattle.oxc_sourcemap_plan.specs.Outcome.{sorted_plain_outcome, simplified_outcome, root_outcome}
use Rattle.oxc_sourcemap_plan.specs.Outcome.{composition_outcome, remap_outcome}

-- a token: generated line and column, source line and column, source id, name id
abbrev token : ℕ → ℕ → ℕ → ℕ → Option ℕ → Option ℕ → TokenRecord
token dst_line dst_col src_line src_col source_id name_id =
    record { dst_line = dst_line; dst_col = dst_col; src_line = src_line; src_col = src_col; source_id = source_id; name_id = name_id }

-- a map of these names, sources and tokens
abbrev plain : List Text → List Text → List TokenRecord → MapRecord
plain names sources tokens = record empty_record { names = names; sources = sources; tokens = tokens }

-- the outcome of a text of this map
abbrev of_map : MapRecord → Outcome
of_map r = plain_outcome (Ok r)

-- a mapping at a generated position, which points to a position of a source
abbrev points : ℕ → ℕ → Text → ℕ → ℕ → Option Text → DecodedMapping
points line col path src_line src_col name =
    record { dst_line = line; dst_col = col; original = Some (record { source = record { path = path; content = None }; src_line = src_line; src_col = src_col; name = name }) }

abbrev unmapped : ℕ → ℕ → DecodedMapping
unmapped line col = record { dst_line = line; dst_col = col; original = None }

-- the mappings of a meaning
abbrev entries_of : Meaning → List DecodedMapping
entries_of (Ok s) = s.mappings
entries_of (Err e) = []

-- the maps of the mappings AAKG,I with the source a.js, and AAOC with b.js
abbrev first_map : MapRecord
first_map = plain [] (codes "a.js" ∷ []) (token 0 0 5 3 (Some 0) None ∷ token 0 4 5 3 None None ∷ [])

abbrev second_map : MapRecord
second_map = plain [] (codes "b.js" ∷ []) (token 0 0 7 1 (Some 0) None ∷ [])

-- the outcome of a join of parts that each begin a line
abbrev lines_outcome : List (Outcome × ℕ) → Outcome
lines_outcome parts = join_outcome (at_lines parts)

-- join 2 @0 0 @1 1
joins-two : entries_of (lines_outcome ((of_map first_map, 0) ∷ (of_map second_map, 1) ∷ [])).meaning
    ≡ points 0 0 (codes "a.js") 5 3 None ∷ unmapped 0 4 ∷ points 1 0 (codes "b.js") 7 1 None ∷ []
joins-two = refl

-- join 2 @0 0 join 1 @1 1 0
joins-grouped : (lines_outcome ((of_map first_map, 0) ∷ (lines_outcome ((of_map second_map, 1) ∷ []), 0) ∷ [])).meaning
    ≡ (lines_outcome ((of_map first_map, 0) ∷ (of_map second_map, 1) ∷ [])).meaning
joins-grouped = refl

-- rewrite join 2 @0 0 @1 1
rewrites-a-join : (rewrite_outcome (lines_outcome ((of_map first_map, 0) ∷ (of_map second_map, 1) ∷ []))).meaning
    ≡ (lines_outcome ((of_map first_map, 0) ∷ (of_map second_map, 1) ∷ [])).meaning
rewrites-a-join = refl

-- sort @0, of a map whose columns go back, with two tokens at one column
abbrev going_back : MapRecord
going_back = plain [] (codes "a.js" ∷ []) (token 0 3 0 0 (Some 0) None ∷ token 0 0 1 0 (Some 0) None ∷ token 0 3 2 0 (Some 0) None ∷ [])

reads-unsorted : (of_map going_back).meaning ≡ Err Unsorted
reads-unsorted = refl

reads-sorted : entries_of (sorted_plain_outcome (Ok going_back)).meaning
    ≡ points 0 0 (codes "a.js") 1 0 None ∷ points 0 3 (codes "a.js") 0 0 None ∷ points 0 3 (codes "a.js") 2 0 None ∷ []
reads-sorted = refl

-- a join whose second map is at a line before the first
joins-unsorted : (lines_outcome ((of_map first_map, 1) ∷ (of_map second_map, 0) ∷ [])).meaning ≡ Err Unsorted
joins-unsorted = refl

-- a map on line 1 at the last line, and a text that is no JSON: the text's fault, and nothing is counted
bad-part-first : (lines_outcome ((of_map (plain [] [] (token 1 0 0 0 None None ∷ [])), 4294967295) ∷ (plain_outcome (Err (BadJson Reading)), 0) ∷ [])).meaning ≡ Err (Map (BadJson Reading))
bad-part-first = refl

bad-part-counts-nothing : (lines_outcome ((of_map (plain [] [] (token 1 0 0 0 None None ∷ [])), 4294967295) ∷ (plain_outcome (Err (BadJson Reading)), 0) ∷ [])).is_within_limits ≡ true
bad-part-counts-nothing = refl

-- without the text that is no JSON, the line past the last one counts
no-room : (lines_outcome ((of_map (plain [] [] (token 1 0 0 0 None None ∷ [])), 4294967295) ∷ [])).is_within_limits ≡ false
no-room = refl

-- joinat 2 @0 0 0 @1 0 10, of a map at columns 0 and 4, and one of two lines
abbrev side_by_side : ℕ → Outcome
side_by_side column = join_outcome (
    (of_map (plain [] (codes "a.js" ∷ []) (token 0 0 0 0 (Some 0) None ∷ token 0 4 0 4 (Some 0) None ∷ [])), record { line = 0; column = 0 })
    ∷ (of_map (plain [] (codes "b.js" ∷ []) (token 0 0 0 0 (Some 0) None ∷ token 1 0 1 0 (Some 0) None ∷ [])), record { line = 0; column = column })
    ∷ [])

joins-at-a-column : entries_of (side_by_side 10).meaning
    ≡ points 0 0 (codes "a.js") 0 0 None ∷ points 0 4 (codes "a.js") 0 4 None ∷ points 0 10 (codes "b.js") 0 0 None ∷ points 1 0 (codes "b.js") 1 0 None ∷ []
joins-at-a-column = refl

joins-at-a-column-unsorted : (side_by_side 3).meaning ≡ Err Unsorted
joins-at-a-column-unsorted = refl

-- a token shifted to a column past the last one
no-room-for-a-column : (join_outcome ((of_map (plain [] [] (token 0 1 0 0 None None ∷ [])), record { line = 0; column = 4294967295 }) ∷ [])).is_within_limits ≡ false
no-room-for-a-column = refl

-- compose @0 @1
composes : entries_of (composition_outcome
    (of_map (plain (codes "x" ∷ []) (codes "m.js" ∷ []) (token 0 0 0 0 (Some 0) (Some 0) ∷ token 0 3 0 9 (Some 0) (Some 0) ∷ [])))
    (of_map (plain (codes "y" ∷ []) (codes "o.ts" ∷ []) (token 0 0 4 4 (Some 0) (Some 0) ∷ token 0 8 5 5 (Some 0) None ∷ [])))).meaning
    ≡ points 0 0 (codes "o.ts") 4 4 (Some (codes "y")) ∷ points 0 3 (codes "o.ts") 5 5 (Some (codes "x")) ∷ []
composes = refl

-- compose @0 @0, of a map with two sources
several : (composition_outcome (of_map (plain [] (codes "a" ∷ codes "b" ∷ []) [])) (of_map (plain [] (codes "a" ∷ codes "b" ∷ []) []))).meaning ≡ Err (Map (SeveralSources 2))
several = refl

-- remap @0 1 m.js @1, of a map with the sources m.js and n.js
remaps : entries_of (remap_outcome
    (of_map (plain (codes "x" ∷ []) (codes "m.js" ∷ codes "n.js" ∷ []) (token 0 0 0 0 (Some 0) (Some 0) ∷ token 0 3 0 9 (Some 1) None ∷ [])))
    ((codes "m.js", of_map (plain [] (codes "o.ts" ∷ []) (token 0 0 4 4 (Some 0) None ∷ []))) ∷ [])).meaning
    ≡ points 0 0 (codes "o.ts") 4 4 (Some (codes "x")) ∷ points 0 3 (codes "n.js") 0 9 None ∷ []
remaps = refl

-- the first part of a remapping has an error, and so has its input
first-part-first : (remap_outcome (plain_outcome (Err (BadJson Reading))) ((codes "a.js", join_outcome ((of_map first_map, record { line = 1; column = 0 }) ∷ (of_map second_map, record { line = 0; column = 0 }) ∷ [])) ∷ [])).meaning
    ≡ Err (Map (BadJson Reading))
first-part-first = refl

-- an input for no source has an error
unused-input : (remap_outcome (of_map first_map) ((codes "z.js", plain_outcome (Err (BadJson Reading))) ∷ [])).meaning ≡ Err (Map (BadJson Reading))
unused-input = refl

-- join 2 root @0 0 @1 1, of two maps with the source root `src`: the second one is dropped
abbrev with_src : MapRecord → MapRecord
with_src r = record r { source_root = Some (codes "src") }

roots : entries_of (lines_outcome ((root_outcome (of_map (with_src second_map)), 0) ∷ (of_map (with_src second_map), 1) ∷ [])).meaning
    ≡ points 0 0 (codes "src/b.js") 7 1 None ∷ points 1 0 (codes "b.js") 7 1 None ∷ []
roots = refl

-- simplify @0, of a map in which a token points where the one before it points: it goes, and the source that none needs
abbrev repeating : MapRecord
repeating = plain [] (codes "a.js" ∷ codes "b.js" ∷ []) (token 0 0 5 3 (Some 0) None ∷ token 0 4 5 3 (Some 0) None ∷ token 0 6 5 4 (Some 0) None ∷ [])

simplifies : entries_of (simplified_outcome (of_map repeating)).meaning ≡ points 0 0 (codes "a.js") 5 3 None ∷ points 0 6 (codes "a.js") 5 4 None ∷ []
simplifies = refl

counts-sources : (simplified_outcome (of_map repeating)).contents ≡ 1
counts-sources = refl

-- a token that moves past the last column
no-room-to-move : (simplified_outcome (of_map (plain [] (codes "a.js" ∷ [])
    (token 0 0 5 3 (Some 0) None ∷ token 0 4294967295 5 3 (Some 0) None ∷ token 0 4294967295 5 4 (Some 0) None ∷ [])))).is_within_limits ≡ false
no-room-to-move = refl

-- simplify @0, of a map whose columns go back
simplifies-unsorted : (simplified_outcome (of_map going_back)).meaning ≡ Err Unsorted
simplifies-unsorted = refl
