use Rattle.std.proofs.Common.{◌∙◌, sym, ap}
use Rattle.oxc_sourcemap_steps.specs.Inputs.{inputs_fault}
use Rattle.oxc_sourcemap_steps.proofs.InputPlaces.{no-fault}
use Rattle.oxc_sourcemap_steps.proofs.remap.inputs.ready_inputs.Goals as goal

pub returns-in-Ok-clause-well : goal.returns-in-Ok-clause-well
returns-in-Ok-clause-well g c = sym (ap inputs_fault c.in-Ok.ensures.inputs) ∙ no-fault _ c.in-Ok.ensures.ready

pub returns-in-Ok-clause-fault : goal.returns-in-Ok-clause-fault
returns-in-Ok-clause-fault g c = λ e f. absurd (cc (f, sym (ap inputs_fault c.in-Ok.ensures.inputs) ∙ no-fault _ c.in-Ok.ensures.ready))
