-- Which inputs a remapping needs, and that their order does not matter if no two are for one path.
use Rattle.std.specs.Prelude.{◌≡◌, Bool, List, map, filter, None, Ok}
use Rattle.std.specs.List.{AllByRecursion, IsDistinct, list_any}
use Rattle.std.specs.List.Sorted.{IsPermutation}
use Rattle.std.specs.Str.{bytes_eq}
use Rattle.oxc_sourcemap_parts.specs.Record.{Text, MapRecord}
use Rattle.oxc_sourcemap_steps.specs.Inputs.{input_for, inputs_fault, NoInputColumnGoesBack}
use Rattle.oxc_sourcemap_steps.specs.Remapped.{remapped, remapping}

-- the paths that inputs are for
abbrev pub input_paths : List (Text × MapRecord) → List Text
input_paths inputs = map (λ input. input.0) inputs

-- no two inputs are for one path
abbrev pub AreForDistinctPaths : List (Text × MapRecord) → Type 0
AreForDistinctPaths inputs = IsDistinct bytes_eq (input_paths inputs)

-- whether an input is for a source of a map
abbrev pub is_for_source : MapRecord → Text × MapRecord → Bool
is_for_source a input = list_any (λ path. bytes_eq path input.0) a.sources

-- the inputs that are for a source of a map, in order
abbrev pub inputs_for_sources : MapRecord → List (Text × MapRecord) → List (Text × MapRecord)
inputs_for_sources a inputs = filter (is_for_source a) inputs

-- two lists of inputs have the same first input, or none, for the path of each source of a map
abbrev pub HaveSameFirstInputs : MapRecord → List (Text × MapRecord) → List (Text × MapRecord) → Type 0
HaveSameFirstInputs a bs cs = AllByRecursion (λ path. input_for bs path ≡ input_for cs path) a.sources

-- Remapping by the second list of inputs is remapping by the first: it makes the same map, and if no input of the first has a
-- fault, it gives the same result. (Where columns go back on a line of an input, contracts leave open what is found there.)
pub record RemapsAlike (a : MapRecord) (bs cs : List (Text × MapRecord)) : Type 0 where
  pub map : remapped a bs ≡ remapped a cs
  pub fault : inputs_fault bs ≡ None → inputs_fault cs ≡ None
  pub result : inputs_fault bs ≡ None → remapping a bs ≡ remapping a cs
  pub made : (m : MapRecord) → remapping a bs ≡ Ok m → remapping a cs ≡ Ok m
  pub goes_on : NoInputColumnGoesBack bs → NoInputColumnGoesBack cs

-- Of inputs only the first for the path of each source counts.
abbrev pub FirstInputsCount : Type 0
FirstInputsCount = (a : MapRecord) (bs cs : List (Text × MapRecord)) → HaveSameFirstInputs a bs cs → remapped a bs ≡ remapped a cs

-- Inputs for distinct paths may be permuted.
abbrev pub InputsMayBePermuted : Type 0
InputsMayBePermuted = (a : MapRecord) (bs cs : List (Text × MapRecord)) → AreForDistinctPaths bs → IsPermutation bs cs
    → RemapsAlike a bs cs × RemapsAlike a cs bs

-- Inputs that are for no source of the map may be left out.
abbrev pub InputsMayBeLeftOut : Type 0
InputsMayBeLeftOut = (a : MapRecord) (inputs : List (Text × MapRecord)) → RemapsAlike a inputs (inputs_for_sources a inputs)
