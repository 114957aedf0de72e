-- What calls give that change a map.
use Rattle.std.specs.Prelude.{◌≡◌, Result, OnOk, OnErr}
use Rattle.oxc_sourcemap_tokens.specs.declared.errors.error.Error.{Error}
use Rattle.oxc_sourcemap_tokens.specs.Results.{OnlyMemory}
use Rattle.oxc_sourcemap_parts.specs.Record.{MapRecord}

-- What a change of a map to another gives: at Ok that other map; no error but `OutOfMemory`; at an error the map as it was.
pub record IsChanged (result : Result (Unit {0}) Error) (old new changed : MapRecord) : Type 0 where
  pub set : OnOk result (new ≡ changed)
  pub error : OnlyMemory result
  pub unchanged : OnErr result (new ≡ old)
