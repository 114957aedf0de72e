use Rattle.std.proofs.Common.{◌++◌, ◌∷◌, [], ◌∙◌, ap}
use Rattle.oxc_sourcemap_text.specs.TextLines.{units_of}
use Rattle.sourcemap_run.proofs.Standing.{units-ended}
use Rattle.sourcemap_run.proofs.bundling.with_line_feed.Goals as goal

pub returns-clause-units : goal.returns-clause-units
unfolding lib.Utf8.encode
returns-clause-units c =
    ap units_of (c.in_ok-push.ensures.bytes ∙ ap (λ t. t ++ 10 ∷ []) c.in_ok-whole.ensures.ok) ∙ units-ended c.args.text.now c.utf8.text
