use Rattle.std.proofs.Common.{ap, Err}
use Rattle.oxc_sourcemap_tokens.proofs.Carried.{carried_error}
use Rattle.oxc_sourcemap_parts.specs.Views.{record_of_parts}
use Rattle.oxc_sourcemap_join.specs.Joined.{owned_records}
use Rattle.oxc_sourcemap_join.proofs.Adding.{error-of-all}
use Rattle.oxc_sourcemap_join.proofs.join.join_owned_parts.Goals as goal

pub returns-in_err-add_moved-clause-error : goal.returns-in_err-add_moved-clause-error
returns-in_err-add_moved-clause-error c =
    carried_error c.from_residual-in_err-add_moved.result c.in_err-add_moved.field-0.0 _ c.from_residual-in_err-add_moved.ensures.1
    (error-of-all c.loop-parts.joined (record_of_parts c.in-Some.parts) c.in-Some.position _ _ _ c.loop-parts.invariant (ap owned_records c.in-Some.ensures.steps.0) c.in_err-add_moved.field-0.0
    c.in_err-add_moved.ensures.error (λ t. c.in_err-add_moved.ensures.too_large.0 (ap (λ x. Err x) t)))
