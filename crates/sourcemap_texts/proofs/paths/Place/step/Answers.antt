use Rattle.std.proofs.Common.{sym, ◌∙◌, codes}
use Rattle.std.specs.Str.{bytes_eq}
use Rattle.std.proofs.lemmas.Result.{on_ok_weaker}
use Rattle.sourcemap_texts.specs.Paths.{way}
use Rattle.sourcemap_texts.proofs.Climbs.{steps_nowhere, steps_up, not_other}
use Rattle.sourcemap_texts.proofs.paths.Place.step.Goals as goal

pub returns-then-is_here : goal.returns-then-is_here
returns-then-is_here c = steps_nowhere (way c.args.self.now) c.args.part.now (sym c.is_here.ensures ∙ c.if-is_here.true)

pub returns : goal.returns
returns c =
    let here = sym c.is_here.ensures ∙ c.if-is_here.false in
    let up = not_other (bytes_eq c.args.part.now (codes "..")) (sym c.ne.ensures ∙ c.if-ne.false) in
    on_ok_weaker c.leave.result (λ e. e ∙ steps_up (way c.args.self.now) c.args.part.now here up) c.leave.ensures
