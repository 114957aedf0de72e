use Rattle.std.proofs.Common.{ap, ◌∙◌}
use Rattle.std.proofs.lemmas.Result.{IfOk-weaker, IfErr-weaker}
use Rattle.smap_run.specs.Traced.{traced_of}
use Rattle.smap_run.proofs.tracing.trace.Goals as goal

pub returns-clause-text : goal.returns-clause-text
returns-clause-text c = IfOk-weaker c.trace_in.result _ _ (λ out e. ap (λ r. traced_of r c.args.line c.args.col) c.in_ok-map.ensures.0 ∙ e) c.trace_in.ensures.text

pub returns-clause-error : goal.returns-clause-error
returns-clause-error c = IfErr-weaker c.trace_in.result _ _ (λ fault e n. ap (λ r. traced_of r c.args.line c.args.col) c.in_ok-map.ensures.0 ∙ e n) c.trace_in.ensures.error
