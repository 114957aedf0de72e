use Rattle.oxc_sourcemap_parts.specs.Views.{record_of_parts}
use Rattle.oxc_sourcemap_steps.specs.Inputs.{owned_input_records}
use Rattle.oxc_sourcemap_steps.proofs.Gathered.{exact-map, exact-error}
use Rattle.oxc_sourcemap_steps.proofs.remap.owned.remap_owned_parts.Goals as goal

pub returns-clause-map : goal.returns-clause-map
returns-clause-map c = λ n. exact-map (record_of_parts c.args.map) (owned_input_records c.args.inputs.items) record_of_parts c.remap_moved.result n c.remap_moved.ensures.made

pub returns-clause-error : goal.returns-clause-error
returns-clause-error c = λ n. exact-error (record_of_parts c.args.map) (owned_input_records c.args.inputs.items) c.remap_moved.result n c.remap_moved.ensures.error
