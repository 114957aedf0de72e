use Rattle.oxc_sourcemap_c.specs.Failures.{IsTextErrorAt}
use Rattle.oxc_sourcemap_c.proofs.Located.{failed_on, text_failed}
use Rattle.oxc_sourcemap_c.proofs.making.reading_texts.read_owned_map.Goals as goal

pub returns-in_err-parts-clause-error : goal.returns-in_err-parts-clause-error
returns-in_err-parts-clause-error c =
    let fault = c.in_err-parts.field-0.0 in
    failed_on (IsTextErrorAt c.args.text.now) c.from_residual.result fault c.from_residual.ensures.1
    (text_failed c.args.text.now fault c.in_err-parts.ensures.map.1 c.in_err-parts.ensures.place.1)
