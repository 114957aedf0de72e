-- What composing and remapping of maps give. What is open where columns go back on a line, and which faults there are, is in the
-- specs of compositions and of remappings.
use Rattle.std.specs.Prelude.{◌≡◌, ◌≢◌, List, Result, Ok, Err, IfOk, IfErr}
use Rattle.oxc_sourcemap_tokens.specs.declared.errors.error.Error.{Error}
use Rattle.oxc_sourcemap_tokens.specs.declared.errors.error.Error.TheVariants.{OutOfMemory}
use Rattle.oxc_sourcemap_tokens.specs.Results.{Reports}
use Rattle.oxc_sourcemap_parts.specs.Record.{Text, MapRecord}
use Rattle.oxc_sourcemap_steps.specs.Composed.{composition, composition_fault, SomeComposition}
use Rattle.oxc_sourcemap_steps.specs.Composed.{NoColumnGoesBack}
use Rattle.oxc_sourcemap_steps.specs.Inputs.{inputs_fault, NoInputColumnGoesBack}
use Rattle.oxc_sourcemap_steps.specs.Remapped.{remapping, SomeRemapping}

-- What a composition of a map with an input gives: the composed map, or its error, or `OutOfMemory`. Where a column of the input
-- goes back on a line it is open which tokens are found there, so it is some composition. A fault of the two maps is reported
-- even without memory.
pub record Composes (m input : MapRecord) (result : Result MapRecord Error) : Type 0 where
  pub map : NoColumnGoesBack input.tokens → IfOk result (λ made. composition m input ≡ Ok made)
  pub error : NoColumnGoesBack input.tokens → IfErr result (λ e. (e ≢ OutOfMemory) → composition m input ≡ Err e)
  pub any_map : IfOk result (λ made. SomeComposition m input (Ok made))
  pub any_error : IfErr result (λ e. (e ≢ OutOfMemory) → SomeComposition m input (Err e))
  pub fault : Reports (composition_fault m input) result

-- The same of the remapping of a map by inputs, each with the path of the source that it is for.
pub record Remaps (m : MapRecord) (inputs : List (Text × MapRecord)) (result : Result MapRecord Error) : Type 0 where
  pub map : NoInputColumnGoesBack inputs → IfOk result (λ made. remapping m inputs ≡ Ok made)
  pub error : NoInputColumnGoesBack inputs → IfErr result (λ e. (e ≢ OutOfMemory) → remapping m inputs ≡ Err e)
  pub any_map : IfOk result (λ made. SomeRemapping m inputs (Ok made))
  pub any_error : IfErr result (λ e. (e ≢ OutOfMemory) → SomeRemapping m inputs (Err e))
  pub fault : Reports (inputs_fault inputs) result
