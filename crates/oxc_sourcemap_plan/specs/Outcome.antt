-- The outcome of a plan, by cases: all that is form of it. What it means (as `Meaning` has it by itself), the map that its steps
-- make, what bounds its counts, and whether it is within the limits.
use Rattle.std.specs.Prelude.{ℕ, Bool, true, false, ◌&&◌, List, [], ◌∷◌, ◌++◌, length, map, Option}
use Rattle.std.specs.Prelude.{Some, None, Result, Ok, Err, if◌then◌else◌, nat_le}
use Rattle.std.specs.List.{flat_map, list_all}
use Rattle.std.specs.Option.{option_map, option_and_then}
use Rattle.oxc_sourcemap_tokens.specs.declared.errors.error.Error.{Error}
use Rattle.oxc_sourcemap_parts.specs.Record.{Text, MapRecord}
use Rattle.oxc_sourcemap_parts.specs.Roots.{rooted}
use Rattle.oxc_sourcemap_parts.specs.DecodedMap.{DecodedMap}
use Rattle.oxc_sourcemap_plan.specs.MapLaws.{rewritten}
use Rattle.oxc_sourcemap_steps.specs.Composed.{composed}
use Rattle.oxc_sourcemap_steps.specs.Remapped.{remapped}
use Rattle.oxc_sourcemap_steps.specs.Simplified.{simplified}
use Rattle.oxc_sourcemap_steps.specs.Sorting.{sorted_map}
use Rattle.oxc_sourcemap_tokens.specs.declared.position.Position.{Position}
use Rattle.oxc_sourcemap_join.specs.Joined.{at_lines, at_positions, joined}
use Rattle.oxc_sourcemap_json.specs.ReadMap.{ReadForm, plain, indexed, indexed_record, form_of_text}
use Rattle.oxc_sourcemap_plan.specs.JoinedDecodedMaps.{joined_decoded_maps}
use Rattle.oxc_sourcemap_plan.specs.JoinLaws.{decoded_maps_of}
use Rattle.oxc_sourcemap_plan.specs.declared.plan.Plan.{Plan}
use Rattle.oxc_sourcemap_plan.specs.declared.plan.Plan.TheOpen.{Plan-F}
use Rattle.oxc_sourcemap_plan.specs.declared.plan.Plan.TheFolds.{fold-Plan}
use Rattle.oxc_sourcemap_tokens.specs.declared.errors.plan_error.PlanError.{PlanError}
use Rattle.oxc_sourcemap_tokens.specs.declared.errors.plan_error.PlanError.TheVariants.{TooDeep}
use Rattle.oxc_sourcemap_plan.specs.Depth.{depth}
use Rattle.oxc_sourcemap_plan.specs.Meaning.{Meaning, read_meaning, indexed_meaning, root_meaning}
use Rattle.oxc_sourcemap_plan.specs.Meaning.{all_decoded_maps, join_meaning, composition_meaning}
use Rattle.oxc_sourcemap_plan.specs.Meaning.{by_path, all_inputs, remap_meaning, simplified_meaning}
use Rattle.oxc_sourcemap_plan.specs.Meaning.{sorted_read_meaning, sorted_indexed_meaning}
use Rattle.oxc_sourcemap_plan.specs.Limits.{is_part_within_limits, is_join_within_limits}
use Rattle.oxc_sourcemap_plan.specs.Limits.{is_simplified_within_limits}

pub record Outcome : Type 0 where
  -- a decoded map, or the first error
  pub meaning : Meaning
  -- the map that the steps make, sorted or not and within the limits or not; none if a text has a fault
  pub map_record : Option MapRecord
  -- the texts of the plan, in the order in which it is evaluated
  pub texts : List Text
  -- the names of all texts that are read
  pub names : List Text
  -- how many contents the map has at most: as many as the text that is read, as the join, the remapping or the simplified map has
  -- sources, or as the second part of the composition
  pub contents : ℕ
  -- No part has more than 4294967295 names, sources or mappings, and no join and no simplified map a line or column above that. A
  -- join counts what all its parts have; a composition the names of both, the sources of the second and the mappings of the
  -- first; a remapping the names of all its parts, the sources of the remapped map and the mappings of the first; a simplified
  -- map the names of its part, and its own sources and mappings. A part that means an error counts
  -- nothing; but a join whose parts mean none counts, sorted or not, and an indexed map counts as the join of its
  -- sections in front of the first fault, whatever it means.
  pub is_within_limits : Bool
  -- the last step is a rewriting
  pub is_rewritten : Bool

-- the map of a text that is read, if it has no fault
abbrev pub record_read : Result MapRecord Error → Option MapRecord
record_read (Err fault) = None
record_read (Ok r) = Some r

-- the names of a text that is read
abbrev pub names_of_read : Result MapRecord Error → List Text
names_of_read (Err fault) = []
names_of_read (Ok r) = r.names

-- how many contents a text that is read lists
abbrev pub contents_of_read : Result MapRecord Error → ℕ
contents_of_read (Err fault) = 0
contents_of_read (Ok r) = length r.source_contents

-- the outcome of a map that is read by itself, from a text that is not known
abbrev pub plain_outcome : Result MapRecord Error → Outcome
plain_outcome read = record {
  meaning = read_meaning read;
  map_record = record_read read;
  texts = [];
  names = names_of_read read;
  contents = contents_of_read read;
  is_within_limits = is_part_within_limits (names_of_read read) (read_meaning read);
  is_rewritten = false;
}

-- the map of an indexed map, unless a section has a fault
abbrev pub map_of_sections : Option Error → MapRecord → Option MapRecord
map_of_sections None r = Some r
map_of_sections (Some fault) r = None

-- the names of sections, in order
abbrev pub names_of_sections : List (MapRecord × Position) → List Text
names_of_sections maps = flat_map (λ m. m.0.names) maps

-- The outcome of an indexed map with this file, by the first fault of its sections and the maps in front of it. It counts what
-- the join of these maps counts, whatever it means.
abbrev pub sections_outcome : Option Text → Option Error → List (MapRecord × Position) → Outcome
sections_outcome file fault maps = record {
  meaning = indexed_meaning file fault (joined_decoded_maps (decoded_maps_of maps));
  map_record = map_of_sections fault (indexed_record file (joined maps));
  texts = [];
  names = names_of_sections maps;
  contents = length (joined_decoded_maps (decoded_maps_of maps)).sources;
  is_within_limits = is_join_within_limits (names_of_sections maps) (Ok (decoded_maps_of maps));
  is_rewritten = false;
}

-- the outcome of the form of a text that is read
abbrev pub form_outcome : ReadForm → Outcome
form_outcome (plain answer) = plain_outcome answer
form_outcome (indexed file found) = sections_outcome file found.fault found.maps

-- an outcome of this one text
abbrev pub of_text : Text → Outcome → Outcome
of_text text o = record o { texts = text ∷ [] }

-- the outcome of a text that is read
abbrev pub read_outcome : Text → Outcome
read_outcome text = of_text text (form_outcome (form_of_text text))

-- the outcome of a map that is read by itself and sorted
abbrev pub sorted_plain_outcome : Result MapRecord Error → Outcome
sorted_plain_outcome read = record (plain_outcome read) {
  meaning = sorted_read_meaning read;
  map_record = option_map sorted_map (record_read read);
  is_within_limits = is_part_within_limits (names_of_read read) (sorted_read_meaning read);
}

-- The outcome of an indexed map that is read and sorted. It counts what it counts if it is only read.
abbrev pub sorted_sections_outcome : Option Text → Option Error → List (MapRecord × Position) → Outcome
sorted_sections_outcome file fault maps = record (sections_outcome file fault maps) {
  meaning = sorted_indexed_meaning file fault (joined_decoded_maps (decoded_maps_of maps));
  map_record = option_map sorted_map (map_of_sections fault (indexed_record file (joined maps)));
}

-- the outcome of the form of a text that is read and sorted
abbrev pub sorted_form_outcome : ReadForm → Outcome
sorted_form_outcome (plain answer) = sorted_plain_outcome answer
sorted_form_outcome (indexed file found) = sorted_sections_outcome file found.fault found.maps

-- the outcome of a text that is read and sorted
abbrev pub sorted_outcome : Text → Outcome
sorted_outcome text = of_text text (sorted_form_outcome (form_of_text text))

-- the outcome of a rewriting, which means what its part means
abbrev pub rewrite_outcome : Outcome → Outcome
rewrite_outcome part = record part { map_record = option_map rewritten part.map_record; is_rewritten = true }

-- the outcome of a step that applies the source root
abbrev pub root_outcome : Outcome → Outcome
root_outcome part =
    record part { meaning = root_meaning part.meaning; map_record = option_map rooted part.map_record; is_rewritten = false }

-- how many sources a decoded map has; none if an error is meant
abbrev pub source_count : Meaning → ℕ
source_count (Err e) = 0
source_count (Ok s) = length s.sources

-- the outcome of a step that simplifies
abbrev pub simplified_outcome : Outcome → Outcome
simplified_outcome part = record part {
  meaning = simplified_meaning part.meaning;
  map_record = option_map simplified part.map_record;
  contents = source_count (simplified_meaning part.meaning);
  is_within_limits = part.is_within_limits && is_simplified_within_limits part.names (simplified_meaning part.meaning);
  is_rewritten = false;
}

-- what the parts of a join mean, each at its offset
abbrev pub meanings : List (Outcome × Position) → List (Meaning × Position)
meanings parts = map (λ p. (p.0.meaning, p.1)) parts

-- the maps of all parts of a join, each at its offset
abbrev pub all_records : List (Outcome × Position) → Option (List (MapRecord × Position))
all_records [] = Some []
all_records (p ∷ parts) = option_and_then (λ m. option_map (λ ms. (m, p.1) ∷ ms) (all_records parts)) p.0.map_record

-- the texts of all parts of a join, in order
abbrev pub texts_of_all : List (Outcome × Position) → List Text
texts_of_all parts = flat_map (λ p. p.0.texts) parts

-- the names of all parts of a join, in order
abbrev pub names_of_all : List (Outcome × Position) → List Text
names_of_all parts = flat_map (λ p. p.0.names) parts

-- how many sources a join of these decoded maps has
abbrev pub joined_source_count : Result (List (DecodedMap × Position)) PlanError → ℕ
joined_source_count (Err e) = 0
joined_source_count (Ok decoded_maps) = length (joined_decoded_maps decoded_maps).sources

-- all parts of a join are within the limits
abbrev pub are_all_within_limits : List (Outcome × Position) → Bool
are_all_within_limits parts = list_all (λ p. p.0.is_within_limits) parts

abbrev pub join_outcome : List (Outcome × Position) → Outcome
join_outcome parts = record {
  meaning = join_meaning (all_decoded_maps (meanings parts));
  map_record = option_map joined (all_records parts);
  texts = texts_of_all parts;
  names = names_of_all parts;
  contents = joined_source_count (all_decoded_maps (meanings parts));
  is_within_limits = are_all_within_limits parts && is_join_within_limits (names_of_all parts) (all_decoded_maps (meanings parts));
  is_rewritten = false;
}

abbrev pub composition_outcome : Outcome → Outcome → Outcome
composition_outcome first second = record {
  meaning = composition_meaning first.meaning second.meaning;
  map_record = option_and_then (λ a. option_map (composed a) second.map_record) first.map_record;
  texts = first.texts ++ second.texts;
  names = first.names ++ second.names;
  contents = second.contents;
  is_within_limits = (first.is_within_limits && second.is_within_limits)
      && is_part_within_limits (first.names ++ second.names) (composition_meaning first.meaning second.meaning);
  is_rewritten = false;
}

-- what the inputs of a remapping mean, each with its path
abbrev pub input_meanings : List (Text × Outcome) → List (Text × Meaning)
input_meanings inputs = map (λ p. (p.0, p.1.meaning)) inputs

-- the maps of all inputs, each with its path
abbrev pub all_input_records : List (Text × Outcome) → Option (List (Text × MapRecord))
all_input_records [] = Some []
all_input_records (p ∷ inputs) = option_and_then (λ m. option_map (λ ms. (p.0, m) ∷ ms) (all_input_records inputs)) p.1.map_record

-- the texts of all inputs, in order
abbrev pub input_texts : List (Text × Outcome) → List Text
input_texts inputs = flat_map (λ p. p.1.texts) inputs

-- the names of all inputs, in order
abbrev pub input_names : List (Text × Outcome) → List Text
input_names inputs = flat_map (λ p. p.1.names) inputs

-- whether all inputs are within the limits
abbrev pub are_inputs_within_limits : List (Text × Outcome) → Bool
are_inputs_within_limits inputs = list_all (λ p. p.1.is_within_limits) inputs

-- what a remapping of these means
abbrev pub remapped_meaning : Outcome → List (Text × Outcome) → Meaning
remapped_meaning first inputs = remap_meaning first.meaning (all_inputs (input_meanings inputs))

abbrev pub remap_outcome : Outcome → List (Text × Outcome) → Outcome
remap_outcome first inputs = record {
  meaning = remapped_meaning first inputs;
  map_record = option_and_then (λ a. option_map (remapped a) (all_input_records inputs)) first.map_record;
  texts = first.texts ++ input_texts inputs;
  names = first.names ++ input_names inputs;
  contents = source_count (remapped_meaning first inputs);
  is_within_limits = (first.is_within_limits && are_inputs_within_limits inputs)
      && is_part_within_limits (first.names ++ input_names inputs) (remapped_meaning first inputs);
  is_rewritten = false;
}

-- the cases of a plan, by the outcomes of its parts
abbrev pub outcome_step : Plan-F Outcome → Outcome
outcome_step (Plan-F.Read text) = read_outcome text.now
outcome_step (Plan-F.ReadSorted text) = sorted_outcome text.now
outcome_step (Plan-F.Rewrite part) = rewrite_outcome part.value
outcome_step (Plan-F.ApplyRoot part) = root_outcome part.value
outcome_step (Plan-F.Simplify part) = simplified_outcome part.value
outcome_step (Plan-F.Join parts) = join_outcome (at_lines parts.items)
outcome_step (Plan-F.JoinAt parts) = join_outcome (at_positions parts.items)
outcome_step (Plan-F.Compose first second) = composition_outcome first.value second.value
outcome_step (Plan-F.Remap first inputs) = remap_outcome first.value (by_path inputs.items)

-- the outcome of a plan of any depth
abbrev pub outcome_of : Plan → Outcome
outcome_of = fold-Plan Outcome outcome_step

-- the outcomes of the parts of a join, each at its offset
abbrev pub outcomes : List (Plan × Position) → List (Outcome × Position)
outcomes parts = map (λ p. (outcome_of p.0, p.1)) parts

-- the outcomes of the inputs of a remapping, each with its path
abbrev pub input_outcomes : List (Text × Plan) → List (Text × Outcome)
input_outcomes inputs = map (λ p. (p.0, outcome_of p.1)) inputs

-- the outcome of a plan of these texts that is too deep, so that none of them is read
abbrev pub too_deep : List Text → Outcome
too_deep texts = record {
  meaning = Err TooDeep;
  map_record = None;
  texts = texts;
  names = [];
  contents = 0;
  is_within_limits = true;
  is_rewritten = false;
}

-- the outcome of a plan, which is at most 64 deep
abbrev pub outcome : Plan → Outcome
outcome plan = if nat_le (depth plan) 64 then outcome_of plan else too_deep (outcome_of plan).texts

-- whether a plan is within the limits
abbrev pub is_within_limits : Plan → Bool
is_within_limits plan = (outcome plan).is_within_limits
