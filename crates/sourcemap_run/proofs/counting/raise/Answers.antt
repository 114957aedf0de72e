use Rattle.std.proofs.Common.{◌≡◌, Some, cond, ap, sym, ◌∙◌}
use Rattle.std.specs.BTreeMap.{get}
use Rattle.sourcemap_run.specs.Counts.{raised}
use Rattle.sourcemap_run.proofs.LineCounts.{line_cmp, raised_line}
use Rattle.sourcemap_run.proofs.counting.raise.Goals as goal

pub returns : goal.returns
returns c =
    let count = c.args.count in
    let most : c.copied.result ≡ get line_cmp c.args.counts.now (c.args.line, c.args.path) = c.copied.ensures ∙ c.get.ensures.value in
    let put : Some count ≡ Some (raised (get line_cmp c.args.counts.now (c.args.line, c.args.path)) count) =
    ap (λ t. cond t c.copied.result (Some count)) (sym c.if-reaches.false) ∙ c.reaches.ensures ∙ ap (λ o. Some (raised o count)) most in
    raised_line c.args.counts.now c.insert.new.self c.args.path c.args.line count put c.in_ok-insert.ensures.updates.0
