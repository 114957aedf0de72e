use Rattle.std.proofs.Common.{ap, Err}
use Rattle.callers.proofs.Errors.{carried}
use Rattle.callers.proofs.Joining.{past-limit}
use Rattle.callers.proofs.join_one_by_one.Goals as goal

pub returns-in_err-add_sourcemap-clause-error : goal.returns-in_err-add_sourcemap-clause-error
returns-in_err-add_sourcemap-clause-error c =
    let call = c.in_err-add_sourcemap.ensures in
    carried c.from_residual.result c.in_err-add_sourcemap.field-0.0 _ c.from_residual.ensures.1
    (past-limit c.joins_associative.ensures.one_more c.args.maps.now c.loop-sourcemap.sourcemap-index c.loop-sourcemap-item.result c.loop-sourcemap-test.true c.loop-sourcemap-item.is
    c.loop-sourcemap.builder c.loop-sourcemap.invariant c.in_err-add_sourcemap.field-0.0 call.error (λ t. call.too_large.0 (ap (λ x. Err x) t)))
