-- What a remapped bundle means, by the laws of remapping.
use Rattle.std.proofs.Common.{◌≡◌, Bool, true, false, List, Option, Some, None, Result, Ok, Err}
use Rattle.std.proofs.Common.{subst}
use Rattle.std.specs.Prelude.{if◌then◌else◌}
use Rattle.std.specs.Result.{IfOk}
use Rattle.oxc_sourcemap.specs.Error.{Error}
use Rattle.oxc_sourcemap.specs.Error.TheVariants.{TooLarge}
use Rattle.oxc_sourcemap.specs.Errors.{unless}
use Rattle.oxc_sourcemap.specs.Record.{Text, MapRecord}
use Rattle.oxc_sourcemap.specs.Sound.{IsSound}
use Rattle.oxc_sourcemap.specs.DecodedMap.{decoded_map_of}
use Rattle.oxc_sourcemap.specs.Inputs.{decoded_inputs, inputs_fault}
use Rattle.oxc_sourcemap.specs.Remapped.{remapped, remapping, has_few}
use Rattle.oxc_sourcemap.specs.RemappedDecodedMaps.{remapped_decoded_map}
use Rattle.oxc_sourcemap.specs.RemapLaws.{DecodedMapOfRemapping, RemappingIsSound}

-- a remapping that gives a map gives the remapped map
remapped-if : (fault : Option Error) (few : Bool) (r m : MapRecord) → unless fault (if few then Ok r else Err TooLarge) ≡ Ok m → r ≡ m
remapped-if None true r m e = cc
remapped-if None false r m e = cc
remapped-if (Some f) few r m e = cc

module _ (a : MapRecord) (inputs : List (Text × MapRecord)) where
  is-remapped : (m : MapRecord) → remapping a inputs ≡ Ok m → remapped a inputs ≡ m
  is-remapped m e = remapped-if (inputs_fault inputs) (has_few (remapped a inputs)) (remapped a inputs) m e

  pub led-decoded : DecodedMapOfRemapping → (r : Result MapRecord Error) → IfOk r (λ m. remapping a inputs ≡ Ok m)
      → IfOk r (λ m. decoded_map_of m ≡ remapped_decoded_map (decoded_map_of a) (decoded_inputs inputs))
  led-decoded law (Ok m) e = subst (λ r. decoded_map_of r ≡ remapped_decoded_map (decoded_map_of a) (decoded_inputs inputs)) (is-remapped m e) (law a inputs)
  led-decoded law (Err f) e = tt

  pub led-sound : RemappingIsSound → (r : Result MapRecord Error) → IfOk r (λ m. remapping a inputs ≡ Ok m) → IfOk r (λ m. IsSound a → IsSound m)
  led-sound law (Ok m) e = λ h. subst IsSound (is-remapped m e) (law a inputs h)
  led-sound law (Err f) e = tt
