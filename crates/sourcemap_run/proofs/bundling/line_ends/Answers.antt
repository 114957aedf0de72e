use Rattle.std.proofs.Common.{◌≡◌, ◌≢◌, length, ap, sym, ◌∙◌}
use Rattle.oxc_sourcemap_text.specs.TextLines.{units_of}
use Rattle.oxc_sourcemap_text.specs.Positions.{position_of}
use Rattle.sourcemap_run.proofs.LineEnds.{sized, size_error}
use Rattle.sourcemap_run.proofs.Standing.{end-told}
use Rattle.sourcemap_run.specs.Bundled.{IsInSize}
use Rattle.sourcemap_run.specs.Words.{OutOfMemory, TooLarge}
use Rattle.oxc_sourcemap_tokens.proofs.Carried.{carried_error}
use Rattle.sourcemap_run.proofs.bundling.line_ends.Goals as goal

pub returns-in-Ok-clause-ends : goal.returns-in-Ok-clause-ends
returns-in-Ok-clause-ends c =
    let same = sized c.args.text.now _ c.in_ok-positions.ensures.0 in
    let count = ap length (sym (c.as_slice-len.ensures.value ∙ c.in_ok-units.ensures)) in
    (c.in-Ok.field-0-1, ap (λ t. position_of t (length (units_of c.args.text.now))) same ∙ (ap (position_of _) count ∙ sym c.in-Ok.ensures))

pub returns-in_err-positions-clause-error : goal.returns-in_err-positions-clause-error
returns-in_err-positions-clause-error c =
    carried_error c.from_residual.result c.in_err-positions.field-0.0 (λ e. (e ≢ OutOfMemory) → (e ≡ TooLarge) × ¬ (IsInSize c.args.text.now)) c.from_residual.ensures.1
    (λ other. size_error c.args.text.now _ (c.in_err-positions.ensures.1 other))

pub returns-clause-error : goal.returns-clause-error
returns-clause-error c =
    let same = sized c.args.text.now _ c.in_ok-positions.ensures.0 in
    let count = ap length (sym (c.as_slice-len.ensures.value ∙ c.in_ok-units.ensures)) in
    absurd (end-told c.args.text.now c.in-Err.field-0 (ap (λ t. position_of t (length (units_of c.args.text.now))) same ∙ (ap (position_of _) count ∙ sym c.in-Err.ensures)))
