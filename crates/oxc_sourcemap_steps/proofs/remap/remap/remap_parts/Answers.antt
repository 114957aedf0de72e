use Rattle.oxc_sourcemap_parts.specs.Views.{record_of_parts}
use Rattle.oxc_sourcemap_steps.specs.Inputs.{input_records}
use Rattle.oxc_sourcemap_steps.proofs.Gathered.{exact-map, exact-error}
use Rattle.oxc_sourcemap_steps.proofs.remap.remap.remap_parts.Goals as goal

pub returns-clause-map : goal.returns-clause-map
returns-clause-map g c = λ n. exact-map (record_of_parts c.args.map.now) (input_records g.M.AsParts.as_record c.args.inputs.now) record_of_parts c.remapped_parts.result n c.remapped_parts.ensures.made

pub returns-clause-error : goal.returns-clause-error
returns-clause-error g c = λ n. exact-error (record_of_parts c.args.map.now) (input_records g.M.AsParts.as_record c.args.inputs.now) c.remapped_parts.result n c.remapped_parts.ensures.error
