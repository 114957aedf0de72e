use Rattle.std.proofs.Common.{◌≡◌, drop}
use Rattle.std.specs.List.{position_from}
use Rattle.oxc_sourcemap_steps.specs.Inputs.{goes_back, input_records}
use Rattle.oxc_sourcemap_steps.proofs.remap.inputs.first_back.Given as goal

abbrev pub invariant-loop-i : goal.invariant-loop-i
invariant-loop-i g l =
    position_from goes_back 0 (input_records g.M.AsParts.as_record l.inputs) ≡ position_from goes_back l.i (input_records g.M.AsParts.as_record (drop l.i l.inputs))
