use Rattle.oxc_sourcemap_parts.specs.Views.{record_of_parts}
use Rattle.oxc_sourcemap_steps.proofs.Compositions.{exact_map, exact_error}
use Rattle.oxc_sourcemap_steps.proofs.compose.compose.compose_lent_parts.Goals as goal

pub returns-clause-map : goal.returns-clause-map
returns-clause-map c = λ g. exact_map (record_of_parts c.args.first.now) (record_of_parts c.args.second.now) record_of_parts c.compose_lent.result g c.compose_lent.ensures.made

pub returns-clause-error : goal.returns-clause-error
returns-clause-error c = λ g. exact_error (record_of_parts c.args.first.now) (record_of_parts c.args.second.now) c.compose_lent.result g c.compose_lent.ensures.error
