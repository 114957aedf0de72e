-- The inputs of a remapping: maps, each for the sources that have its path.
use Rattle.std.specs.Prelude.{Bool, List, [], ◌∷◌, map, Option, Some, None, option_map, is_some}
use Rattle.std.specs.Prelude.{if◌then◌else◌}
use Rattle.std.specs.Borrow.{Bor}
use Rattle.std.specs.List.{position_from, AllByRecursion}
use Rattle.std.specs.Str.{bytes_eq}
use Rattle.oxc_sourcemap_tokens.specs.declared.errors.error.Error.{Error}
use Rattle.oxc_sourcemap_tokens.specs.declared.errors.error.Error.TheVariants.{InputLineOrder}
use Rattle.oxc_sourcemap_tokens.specs.LineOrder.{first_out_of_order}
use Rattle.oxc_sourcemap_parts.specs.DecodedMap.{DecodedMap, decoded_map_of}
use Rattle.oxc_sourcemap_parts.specs.Record.{Text, MapRecord}
use Rattle.oxc_sourcemap_parts.specs.Views.{record_of_parts}
use Rattle.oxc_sourcemap_parts.specs.declared.parts.SourceMapParts.{SourceMapParts}
use Rattle.oxc_sourcemap_steps.specs.Composed.{NoColumnGoesBack}

-- the first input for a path; paths are compared byte for byte
abbrev pub input_for : {A : Type 0} → List (Text × A) → Text → Option A
input_for [] path = None
input_for (input ∷ inputs) path = if bytes_eq path input.0 then Some input.1 else input_for inputs path

-- borrowed inputs, with their maps as records
abbrev pub input_records : {M : Type 0} → (M → MapRecord) → List (Bor Text × Bor M) → List (Text × MapRecord)
input_records record_of inputs = map (λ input. (input.0.now, record_of input.1.now)) inputs

-- the same of maps that are seen as records
abbrev pub lent_inputs : List (Bor Text × Bor MapRecord) → List (Text × MapRecord)
lent_inputs inputs = map (λ input. (input.0.now, input.1.now)) inputs

-- the same of maps that are not borrowed
abbrev pub owned_input_records : List (Bor Text × SourceMapParts) → List (Text × MapRecord)
owned_input_records inputs = map (λ input. (input.0.now, record_of_parts input.1)) inputs

-- the inputs with what their maps mean
abbrev pub decoded_inputs : List (Text × MapRecord) → List (Text × DecodedMap)
decoded_inputs inputs = map (λ input. (input.0, decoded_map_of input.1)) inputs

-- whether the tokens of an input go back in lines
abbrev pub goes_back : Text × MapRecord → Bool
goes_back input = is_some (first_out_of_order input.1.tokens)

-- The fault of inputs: the first of them whose tokens go back in lines, by its index, whether or not it is for a source.
abbrev pub inputs_fault : List (Text × MapRecord) → Option Error
inputs_fault inputs = option_map InputLineOrder (position_from goes_back 0 inputs)

-- on no line of an input do columns go back
abbrev pub NoInputColumnGoesBack : List (Text × MapRecord) → Type 0
NoInputColumnGoesBack inputs = AllByRecursion (λ input. NoColumnGoesBack input.1.tokens) inputs
