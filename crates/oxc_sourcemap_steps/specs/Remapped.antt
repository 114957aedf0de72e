-- Remapping: a map some of whose sources are themselves generated, and the maps of these, made one.
use Rattle.std.specs.Prelude.{◌≡◌, ℕ, ◌+◌, Bool, ◌&&◌, List, [], map, length, take, slice_get}
use Rattle.std.specs.Prelude.{Option, Some, None, Result, Ok, Err, if◌then◌else◌, nat_lt, nat_le}
use Rattle.std.specs.List.{filter_map, AllByRecursion}
use Rattle.std.specs.Option.{option_and_then, option_or}
use Rattle.oxc_sourcemap_tokens.specs.declared.errors.error.Error.{Error}
use Rattle.oxc_sourcemap_tokens.specs.declared.errors.error.Error.TheVariants.{TooLarge}
use Rattle.oxc_sourcemap_tokens.specs.Errors.{unless}
use Rattle.oxc_sourcemap_tokens.specs.Token.{TokenRecord}
use Rattle.oxc_sourcemap_parts.specs.DecodedMap.{DecodedSource, name_of, decoded_map_of}
use Rattle.oxc_sourcemap_parts.specs.Record.{Text, MapRecord}
use Rattle.oxc_sourcemap_parts.specs.Texts.{index_of, with_texts}
use Rattle.oxc_sourcemap_steps.specs.Composed.{Target, target_of, target_in, line_of, IsTarget}
use Rattle.oxc_sourcemap_steps.specs.Inputs.{input_for, decoded_inputs, inputs_fault}
use Rattle.oxc_sourcemap_steps.specs.Blocks.{remapped_sources, remapped_ignore_list}

-- the sources of a map, with their contents
abbrev pub listed_sources : MapRecord → List DecodedSource
listed_sources a = (decoded_map_of a).sources

-- the source of a token; none if it has no source id, or one out of range
abbrev pub source_of : MapRecord → TokenRecord → Option DecodedSource
source_of a t = option_and_then (slice_get (listed_sources a)) t.source_id

-- the input for the source of a token
abbrev pub input_of : List (Text × MapRecord) → MapRecord → TokenRecord → Option MapRecord
input_of inputs a t = option_and_then (λ source. input_for inputs source.path) (source_of a t)

-- what a token leads to in this input, by the clamped lookup; nothing without an input
abbrev pub target_by : Option MapRecord → TokenRecord → Target
target_by None t = target_of t None
target_by (Some b) t = target_in b.tokens t

abbrev pub remap_targets : MapRecord → List (Text × MapRecord) → List Target
remap_targets a inputs = map (λ t. target_by (input_of inputs a t) t) a.tokens

-- Where a token of the remapped map points to: a source by its id there, a position in it, and a name, as a text.
pub record Original : Type 0 where
  pub source_id : ℕ
  pub src_line : ℕ
  pub src_col : ℕ
  pub name : Option Text

-- Where a token of an input points to, if the input's sources begin at the id `start`: with its own name, else with this one.
-- Nowhere, if it is unmapped, or its source id is out of range.
abbrev pub input_original_at : MapRecord → ℕ → Option Text → TokenRecord → ℕ → Option Original
input_original_at b start name u id =
    if nat_lt id (length b.sources)
    then Some (record { source_id = id + start; src_line = u.src_line; src_col = u.src_col; name = option_or (name_of b.names u) name })
    else None

abbrev pub input_original : MapRecord → ℕ → Option Text → TokenRecord → Option Original
input_original b start name u = option_and_then (input_original_at b start name u) u.source_id

-- Where a token of a source leads whose block begins at the id `start`: without an input it points to where it did, with one to
-- where the token points that it leads to there, if any.
abbrev pub original_by : Option MapRecord → ℕ → List Text → Target → Option Original
original_by None start names l =
    Some (record { source_id = start; src_line = l.token.src_line; src_col = l.token.src_col; name = name_of names l.token })
original_by (Some b) start names l = option_and_then (input_original b start (name_of names l.token)) l.found

-- the id at which the block of the source with this index begins: how many sources stand for those before it
abbrev pub block_start : List (Text × MapRecord) → MapRecord → ℕ → ℕ
block_start inputs a i = length (remapped_sources (decoded_inputs inputs) (take i (listed_sources a)))

abbrev pub original_at : List (Text × MapRecord) → MapRecord → Target → ℕ → Option Original
original_at inputs a l i =
    option_and_then (λ source. original_by (input_for inputs source.path) (block_start inputs a i) a.names l) (slice_get (listed_sources a) i)

-- where a token of the first map leads; nowhere, if it is unmapped, or its source id is out of range
abbrev pub original : List (Text × MapRecord) → MapRecord → Target → Option Original
original inputs a l = option_and_then (original_at inputs a l) l.token.source_id

-- the name that a token needs
abbrev pub needed_name : Option Original → Option Text
needed_name o = option_and_then (λ o. o.name) o

-- the names that tokens need, each once, in the order in which they are first needed
abbrev pub needed_names : List (Option Original) → List Text
needed_names os = with_texts [] (filter_map needed_name os)

-- A token keeps its generated position, and points to this; it is unmapped where it leads nowhere.
abbrev pub token_to : List Text → TokenRecord → Option Original → TokenRecord
token_to names t None =
    record { dst_line = t.dst_line; dst_col = t.dst_col; src_line = 0; src_col = 0; source_id = None; name_id = None }
token_to names t (Some o) = record {
  dst_line = t.dst_line;
  dst_col = t.dst_col;
  src_line = o.src_line;
  src_col = o.src_col;
  source_id = Some o.source_id;
  name_id = option_and_then (λ name. index_of name names) o.name;
}

abbrev pub remapped_token : List (Text × MapRecord) → MapRecord → List Text → Target → TokenRecord
remapped_token inputs a names l = token_to names l.token (original inputs a l)

abbrev pub remapped_names : List Target → MapRecord → List (Text × MapRecord) → List Text
remapped_names ls a inputs = needed_names (map (original inputs a) ls)

-- The map that these targets make. File and debug id are the first map's; no source root is kept, as in joins.
abbrev pub remapped_by : List Target → MapRecord → List (Text × MapRecord) → MapRecord
remapped_by ls a inputs =
    let sources = remapped_sources (decoded_inputs inputs) (listed_sources a) in
    let names = remapped_names ls a inputs in record {
      file = a.file;
      names = names;
      source_root = None;
      sources = map (λ source. source.path) sources;
      source_contents = map (λ source. source.content) sources;
      tokens = map (remapped_token inputs a names) ls;
      token_chunks = None;
      ignore_list = remapped_ignore_list (decoded_inputs inputs) (decoded_map_of a);
      debug_id = a.debug_id;
    }

-- the remapped record
abbrev pub remapped : MapRecord → List (Text × MapRecord) → MapRecord
remapped a inputs = remapped_by (remap_targets a inputs) a inputs

-- whether sources and names number at most 4294967295 each
abbrev pub has_few : MapRecord → Bool
has_few a = nat_le (length a.sources) 4294967295 && nat_le (length a.names) 4294967295

-- The map that these targets make; `TooLarge` where its sources or names would number above 4294967295.
abbrev pub remapping_by : List Target → MapRecord → List (Text × MapRecord) → Result MapRecord Error
remapping_by ls a inputs = unless (inputs_fault inputs) (if has_few (remapped_by ls a inputs) then Ok (remapped_by ls a inputs) else Err TooLarge)

-- The remapping of a map by these inputs: the remapped map, or the first fault.
abbrev pub remapping : MapRecord → List (Text × MapRecord) → Result MapRecord Error
remapping a inputs = remapping_by (remap_targets a inputs) a inputs

-- Where a token may lead in this input: to what a clamped lookup may find there, as in compositions; nowhere without an input.
abbrev pub IsTargetBy : Option MapRecord → Target → Type 0
IsTargetBy None l = l.found ≡ None
IsTargetBy (Some b) l = IsTarget (line_of b.tokens l.token) l

-- targets of the tokens of a map, in order, each in the input for its source
abbrev pub AreTargets : MapRecord → List (Text × MapRecord) → List Target → Type 0
AreTargets a inputs ls = (map (λ l. l.token) ls ≡ a.tokens) × AllByRecursion (λ l. IsTargetBy (input_of inputs a l.token) l) ls

-- a result of the remapping, for some targets; there are several only if columns go back on a line of an input
abbrev pub SomeRemapping : MapRecord → List (Text × MapRecord) → Result MapRecord Error → Type 0
SomeRemapping a inputs answer = (ls : List Target) × AreTargets a inputs ls × (remapping_by ls a inputs ≡ answer)
