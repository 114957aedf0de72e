use Rattle.std.proofs.Common.{ap, Err, ◌∙◌}
use Rattle.std.proofs.lemmas.Result.{IfOk-weaker}
use Rattle.oxc_sourcemap.specs.Built.{Built}
use Rattle.oxc_sourcemap.specs.Building.{with_path}
use Rattle.callers.proofs.Errors.{carried}
use Rattle.callers.proofs.Building.{name-fits, built-is}
use Rattle.callers.proofs.one_token.Goals as goal

pub returns-in_err-name_id-clause-error : goal.returns-in_err-name_id-clause-error
returns-in_err-name_id-clause-error c =
    let first = c.in_ok-source_id.ensures.added ∙ ap (λ (b : Built). with_path b c.args.path.now c.args.content.now) c.empty-builder.ensures in
    let call = c.in_err-name_id.ensures in
    carried c.from_residual-in_err-name_id.result c.in_err-name_id.field-0.0 _ c.from_residual-in_err-name_id.ensures.1
    (name-fits _ _ c.args.path.now c.args.content.now first c.in_err-name_id.field-0.0 call.error (λ t. call.too_large.0 (ap (λ x. Err x) t)))

pub returns-clause-map : goal.returns-clause-map
returns-clause-map c =
    let first = c.in_ok-source_id.ensures.added ∙ ap (λ (b : Built). with_path b c.args.path.now c.args.content.now) c.empty-builder.ensures in
    let built = built-is _ _ _ _ _ c.args.path.now c.args.content.now c.args.name.now c.args.line c.args.col first c.in_ok-name_id.ensures.added c.in_ok-add_token.ensures.added in
    IfOk-weaker c.into_sourcemap.result _ _ (λ m e. e ∙ built) c.into_sourcemap.ensures.map
