-- What a plan means: a decoded map, or one error. By a case for each kind of plan, from what its parts mean.
use Rattle.std.specs.Prelude.{List, [], ◌∷◌, length, map, Option, Some, None, Result, Ok, Err}
use Rattle.std.specs.Prelude.{if◌then◌else◌, nat_le, nat_lt}
use Rattle.std.specs.Borrow.{Bor}
use Rattle.oxc_sourcemap_tokens.specs.declared.errors.error.Error.{Error}
use Rattle.oxc_sourcemap_tokens.specs.declared.errors.error.Error.TheVariants.{SeveralSources}
use Rattle.oxc_sourcemap_parts.specs.Record.{Text, MapRecord}
use Rattle.oxc_sourcemap_parts.specs.Sorted.{are_tokens_sorted}
use Rattle.oxc_sourcemap_parts.specs.DecodedMap.{DecodedMap, decoded_map_of}
use Rattle.oxc_sourcemap_steps.specs.Sorting.{sorted_decoded_map}
use Rattle.oxc_sourcemap_tokens.specs.declared.position.Position.{Position}
use Rattle.oxc_sourcemap_join.specs.Joined.{at_lines, at_positions}
use Rattle.oxc_sourcemap_json.specs.ReadMap.{ReadForm, plain, indexed, form_of_text}
use Rattle.oxc_sourcemap_plan.specs.Repeats.{is_sorted_decoded_map}
use Rattle.oxc_sourcemap_plan.specs.JoinedDecodedMaps.{joined_decoded_maps}
use Rattle.oxc_sourcemap_plan.specs.JoinLaws.{decoded_maps_of}
use Rattle.oxc_sourcemap_plan.specs.ComposedDecodedMaps.{composed_decoded_maps}
use Rattle.oxc_sourcemap_plan.specs.RemappedDecodedMaps.{remapped_decoded_map}
use Rattle.oxc_sourcemap_plan.specs.RootedDecodedMaps.{rooted_decoded_map}
use Rattle.oxc_sourcemap_steps.specs.Simplified.{simplified_decoded_map}
use Rattle.oxc_sourcemap_tokens.specs.declared.errors.plan_error.PlanError.{PlanError}
use Rattle.oxc_sourcemap_tokens.specs.declared.errors.plan_error.PlanError.TheVariants.{Map}
use Rattle.oxc_sourcemap_tokens.specs.declared.errors.plan_error.PlanError.TheVariants.{Unsorted}
use Rattle.oxc_sourcemap_tokens.specs.declared.errors.plan_error.PlanError.TheVariants.{TooDeep}
use Rattle.oxc_sourcemap_plan.specs.declared.plan.Plan.{Plan}
use Rattle.oxc_sourcemap_plan.specs.declared.plan.Plan.TheOpen.{Plan-F}
use Rattle.oxc_sourcemap_plan.specs.declared.plan.Plan.TheFolds.{fold-Plan}
use Rattle.oxc_sourcemap_plan.specs.Depth.{depth}

abbrev pub Meaning : Type 0
Meaning = Result DecodedMap PlanError

-- the meaning of a map that is read by itself: its decoded map, if that is sorted
abbrev pub read_meaning : Result MapRecord Error → Meaning
read_meaning (Err fault) = Err (Map fault)
read_meaning (Ok r) = if are_tokens_sorted r.tokens then Ok (decoded_map_of r) else Err Unsorted

-- the meaning of an indexed map that is read: the join of the decoded maps of its sections, with its file, if that is sorted; or
-- the fault of a section
abbrev pub indexed_meaning : Option Text → Option Error → DecodedMap → Meaning
indexed_meaning file (Some fault) s = Err (Map fault)
indexed_meaning file None s = if is_sorted_decoded_map s then Ok (record s { file = file }) else Err Unsorted

-- the meaning of a text, by how it is read
abbrev pub form_meaning : ReadForm → Meaning
form_meaning (plain answer) = read_meaning answer
form_meaning (indexed file found) = indexed_meaning file found.fault (joined_decoded_maps (decoded_maps_of found.maps))

abbrev pub text_meaning : Text → Meaning
text_meaning text = form_meaning (form_of_text text)

-- the meaning of a map that is read by itself and sorted
abbrev pub sorted_read_meaning : Result MapRecord Error → Meaning
sorted_read_meaning (Err fault) = Err (Map fault)
sorted_read_meaning (Ok r) = Ok (sorted_decoded_map (decoded_map_of r))

-- the meaning of an indexed map that is read and sorted: the join of the decoded maps of its sections, with its file, sorted; or
-- the fault of a section
abbrev pub sorted_indexed_meaning : Option Text → Option Error → DecodedMap → Meaning
sorted_indexed_meaning file (Some fault) s = Err (Map fault)
sorted_indexed_meaning file None s = Ok (sorted_decoded_map (record s { file = file }))

-- the meaning of a text that is read and sorted, by how it is read
abbrev pub sorted_form_meaning : ReadForm → Meaning
sorted_form_meaning (plain answer) = sorted_read_meaning answer
sorted_form_meaning (indexed file found) = sorted_indexed_meaning file found.fault (joined_decoded_maps (decoded_maps_of found.maps))

abbrev pub sorted_text_meaning : Text → Meaning
sorted_text_meaning text = sorted_form_meaning (form_of_text text)

-- the meaning of a step that applies the source root
abbrev pub root_meaning : Meaning → Meaning
root_meaning (Err e) = Err e
root_meaning (Ok s) = Ok (rooted_decoded_map s)

-- the meaning of a step that simplifies: the simplified decoded map of its part
abbrev pub simplified_meaning : Meaning → Meaning
simplified_meaning (Err e) = Err e
simplified_meaning (Ok s) = Ok (simplified_decoded_map s)

-- a decoded map at its offset, before others; or the first error
abbrev pub onto_decoded_maps : Meaning → Position → Result (List (DecodedMap × Position)) PlanError
    → Result (List (DecodedMap × Position)) PlanError
onto_decoded_maps (Err e) offset others = Err e
onto_decoded_maps (Ok s) offset (Err e) = Err e
onto_decoded_maps (Ok s) offset (Ok others) = Ok ((s, offset) ∷ others)

-- the decoded maps of all parts of a join, each at its offset, or the first error of a part
abbrev pub all_decoded_maps : List (Meaning × Position) → Result (List (DecodedMap × Position)) PlanError
all_decoded_maps [] = Ok []
all_decoded_maps (part ∷ parts) = onto_decoded_maps part.0 part.1 (all_decoded_maps parts)

-- the meaning of a join: the join of the decoded maps of its parts, if that is sorted
abbrev pub join_meaning : Result (List (DecodedMap × Position)) PlanError → Meaning
join_meaning (Err e) = Err e
join_meaning (Ok decoded_maps) =
    if is_sorted_decoded_map (joined_decoded_maps decoded_maps) then Ok (joined_decoded_maps decoded_maps) else Err Unsorted

-- the meaning of a composition: the composition of the decoded maps of its two parts, if the first has at most one source
abbrev pub composition_meaning : Meaning → Meaning → Meaning
composition_meaning (Err e) second = Err e
composition_meaning (Ok s) (Err e) = Err e
composition_meaning (Ok s) (Ok t) =
    if nat_lt 1 (length s.sources) then Err (Map (SeveralSources (length s.sources))) else Ok (composed_decoded_maps s t)

-- inputs of a remapping, each with its path as a text
abbrev pub by_path : {A : Type 0} → List (Bor Text × A) → List (Text × A)
by_path inputs = map (λ input. (input.0.now, input.1)) inputs

-- an input of a remapping, with its path, before others; or the first error
abbrev pub onto_inputs : Text → Meaning → Result (List (Text × DecodedMap)) PlanError → Result (List (Text × DecodedMap)) PlanError
onto_inputs path (Err e) others = Err e
onto_inputs path (Ok s) (Err e) = Err e
onto_inputs path (Ok s) (Ok others) = Ok ((path, s) ∷ others)

-- the decoded maps of all inputs of a remapping, each with its path, or the first error of an input
abbrev pub all_inputs : List (Text × Meaning) → Result (List (Text × DecodedMap)) PlanError
all_inputs [] = Ok []
all_inputs (input ∷ inputs) = onto_inputs input.0 input.1 (all_inputs inputs)

-- the meaning of a remapping: the decoded map of its first part, remapped by those of its inputs
abbrev pub remap_meaning : Meaning → Result (List (Text × DecodedMap)) PlanError → Meaning
remap_meaning (Err e) inputs = Err e
remap_meaning (Ok s) (Err e) = Err e
remap_meaning (Ok s) (Ok inputs) = Ok (remapped_decoded_map s inputs)

-- the cases of a plan, by what its parts mean
abbrev pub meaning_step : Plan-F Meaning → Meaning
meaning_step (Plan-F.Read text) = text_meaning text.now
meaning_step (Plan-F.ReadSorted text) = sorted_text_meaning text.now
meaning_step (Plan-F.Rewrite part) = part.value
meaning_step (Plan-F.ApplyRoot part) = root_meaning part.value
meaning_step (Plan-F.Simplify part) = simplified_meaning part.value
meaning_step (Plan-F.Join parts) = join_meaning (all_decoded_maps (at_lines parts.items))
meaning_step (Plan-F.JoinAt parts) = join_meaning (all_decoded_maps (at_positions parts.items))
meaning_step (Plan-F.Compose first second) = composition_meaning first.value second.value
meaning_step (Plan-F.Remap first inputs) = remap_meaning first.value (all_inputs (by_path inputs.items))

-- what a plan of any depth means
abbrev pub meaning_of : Plan → Meaning
meaning_of = fold-Plan Meaning meaning_step

-- what a plan means; `TooDeep` if it is deeper than 64
abbrev pub meaning : Plan → Meaning
meaning plan = if nat_le (depth plan) 64 then meaning_of plan else Err TooDeep
