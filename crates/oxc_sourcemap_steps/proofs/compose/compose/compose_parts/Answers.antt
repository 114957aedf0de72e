use Rattle.std.proofs.lemmas.Result.{err_from_is_err_and}
use Rattle.oxc_sourcemap_parts.specs.Views.{record_of_parts}
use Rattle.oxc_sourcemap_steps.proofs.Compositions.{exact, exact_error}
use Rattle.oxc_sourcemap_steps.proofs.compose.compose.compose_parts.Goals as goal

pub returns-in_err-compose_into-clause-error : goal.returns-in_err-compose_into-clause-error
returns-in_err-compose_into-clause-error c = λ g.
    let p = err_from_is_err_and c.from_residual.result c.from_residual.ensures.1 in
    exact_error (record_of_parts c.args.first) (record_of_parts c.args.second) c.from_residual.result g (rw (p.1, p.2) (λ other. c.in_err-compose_into.ensures.error other))

pub returns-clause-map : goal.returns-clause-map
returns-clause-map c = λ g. exact (record_of_parts c.args.first) (record_of_parts c.args.second) _ g c.in_ok-compose_into.ensures.made
