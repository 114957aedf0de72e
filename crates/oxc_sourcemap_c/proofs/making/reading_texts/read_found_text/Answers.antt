use Rattle.std.proofs.Common.{subst, sym}
use Rattle.oxc_sourcemap_parts.specs.Sound.{IsSound}
use Rattle.oxc_sourcemap_parts.specs.Views.{record_of_parts}
use Rattle.oxc_sourcemap_c.specs.Failures.{IsFoundTextErrorAt}
use Rattle.oxc_sourcemap_c.proofs.Located.{failed_on, found_failed}
use Rattle.oxc_sourcemap_c.proofs.making.reading_texts.read_found_text.Goals as goal

pub returns-clause-sound : goal.returns-clause-sound
returns-clause-sound c =
    subst IsSound (sym c.from_parts.ensures) (c.mending_harmless.ensures.sound c.args.text.now (record { map = record_of_parts c.in_ok-found.found.parts; mends = c.in_ok-found.found.mends.items }) c.in_ok-found.ensures.map.0)

pub returns-in_err-found-clause-error : goal.returns-in_err-found-clause-error
returns-in_err-found-clause-error c =
    let fault = c.in_err-found.field-0.0 in
    failed_on (IsFoundTextErrorAt c.args.text.now) c.from_residual.result fault c.from_residual.ensures.1
    (found_failed c.args.text.now fault c.in_err-found.ensures.map.1 c.in_err-found.ensures.place)
