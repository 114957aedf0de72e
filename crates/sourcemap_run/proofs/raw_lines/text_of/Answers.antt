use Rattle.std.proofs.Common.{sym, subst, ◌∙◌}
use Rattle.std.proofs.lemmas.Result.{IfOk-weaker}
use Rattle.sourcemap_run.specs.RawLines.{IsMasked}
use Rattle.sourcemap_run.proofs.raw_lines.text_of.Goals as goal

pub returns-in-Ok-clause-masked : goal.returns-in-Ok-clause-masked
returns-in-Ok-clause-masked c =
    let line = c.args.line.now in
    IfOk-weaker c.from_str.result _ _ (λ text is. subst (IsMasked line) (sym (is ∙ c.in-Ok.ensures.cases.0)) (IsMasked.whole line c.in-Ok.ensures.cases.1)) c.from_str.ensures.ok
