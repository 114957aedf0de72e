-- Faults as errors.
use Rattle.std.specs.Prelude.{◌≡◌, Option, Some, None, Result, Err}
use Rattle.serde_json.specs.declared.error.Error as json
use Rattle.serde_json.specs.Errors.{IsMemory}
use Rattle.oxc_sourcemap_tokens.specs.declared.errors.error.Error.{Error}
use Rattle.oxc_sourcemap_tokens.specs.declared.errors.error.Error.TheVariants.{BadJson, OutOfMemory}
use Rattle.oxc_sourcemap_tokens.specs.declared.errors.error.JsonFault.TheVariants.{Reading}

-- this result, unless there is a fault
abbrev pub unless : {A : Type 0} → Option Error → Result A Error → Result A Error
unless None answer = answer
unless (Some fault) answer = Err fault

-- What an error of `serde_json` becomes: `OutOfMemory` for want of memory, and `BadJson(Reading)` for every other cause.
abbrev pub error_of_json : json.Error → Error → Type 0
error_of_json cause e = (IsMemory cause → e ≡ OutOfMemory) × (¬ (IsMemory cause) → e ≡ BadJson Reading)
