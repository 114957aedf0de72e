use Rattle.std.proofs.Common.{◌≡◌, take}
use Rattle.oxc_sourcemap_steps.specs.RemapSteps.{ready_records, AreReady}
use Rattle.oxc_sourcemap_steps.specs.Inputs.{input_records}
use Rattle.oxc_sourcemap_steps.proofs.remap.inputs.all_ready.Given as goal

abbrev pub invariant-loop-path : goal.invariant-loop-path
invariant-loop-path g l = record {
  ready : AreReady l.ready.items;
  inputs : ready_records l.ready.items ≡ input_records g.M.AsParts.as_record (take l.path-index l.inputs);
}
