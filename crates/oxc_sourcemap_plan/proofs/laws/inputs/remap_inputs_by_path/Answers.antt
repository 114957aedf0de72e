use Rattle.oxc_sourcemap_plan.proofs.RemapInputs.{first_inputs_count, inputs_may_be_permuted}
use Rattle.oxc_sourcemap_plan.proofs.RemapInputs.{inputs_may_be_left_out}
use Rattle.oxc_sourcemap_plan.proofs.laws.inputs.remap_inputs_by_path.Goals as goal

pub returns-clause-first : goal.returns-clause-first
returns-clause-first c = first_inputs_count

pub returns-clause-permuted : goal.returns-clause-permuted
returns-clause-permuted c = inputs_may_be_permuted

pub returns-clause-left_out : goal.returns-clause-left_out
returns-clause-left_out c = inputs_may_be_left_out
