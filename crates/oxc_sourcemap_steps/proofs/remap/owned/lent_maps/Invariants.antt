use Rattle.std.proofs.Common.{◌≡◌, take}
use Rattle.oxc_sourcemap_parts.specs.Views.{record_of_parts}
use Rattle.oxc_sourcemap_steps.specs.Inputs.{input_records, owned_input_records}
use Rattle.oxc_sourcemap_steps.proofs.remap.owned.lent_maps.Given as goal

abbrev pub invariant-loop-path : goal.invariant-loop-path
invariant-loop-path l = input_records record_of_parts l.lent.items ≡ owned_input_records (take l.path-index l.inputs)
