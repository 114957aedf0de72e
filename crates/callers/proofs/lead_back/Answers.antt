use Rattle.oxc_sourcemap.specs.Inputs.{lent_inputs}
use Rattle.callers.proofs.Remapping.{led-decoded, led-sound}
use Rattle.callers.proofs.lead_back.Goals as goal

pub returns-clause-decoded_map : goal.returns-clause-decoded_map
returns-clause-decoded_map c =
    λ n. led-decoded c.args.bundle.now (lent_inputs c.args.inputs.now) c.remapping_associative.ensures.decoded_map_of_remapping c.remap.result (c.remap.ensures.map n)

pub returns-clause-sound : goal.returns-clause-sound
returns-clause-sound c =
    λ n. led-sound c.args.bundle.now (lent_inputs c.args.inputs.now) c.remapping_associative.ensures.sound c.remap.result (c.remap.ensures.map n)
