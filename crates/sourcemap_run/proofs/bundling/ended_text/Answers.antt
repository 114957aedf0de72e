use Rattle.std.proofs.Common.{◌<◌, ◌+◌, refl, inr, subst, string_bytes, arith}
use Rattle.sourcemap_run.specs.Bundled.{HasLineEnds}
use Rattle.sourcemap_run.proofs.bundling.ended_text.Goals as goal

pub returns-in_default-clause-error : goal.returns-in_default-clause-error
returns-in_default-clause-error c = λ other.
    let lines = c.in_ok-line_ends.field-0 in
    let ends = subst (λ t. HasLineEnds t lines) c.as_str.ensures.value c.in_ok-line_ends.ensures.ends in
    let past : 4294967295 < c.args.line + lines = omega (arith, c.in_default.ensures) in
    (refl, (string_bytes c.in_ok-whole.whole, c.in_ok-whole.ensures.text, inr (lines, ends, past)))
