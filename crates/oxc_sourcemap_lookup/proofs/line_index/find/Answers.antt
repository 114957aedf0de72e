use Rattle.oxc_sourcemap_lookup.proofs.LineSpans.{none-at}
use Rattle.oxc_sourcemap_lookup.proofs.line_index.find.Goals as goal

pub returns-clause-none : goal.returns-clause-none
returns-clause-none c = λ none.
    let before = c.count_lines_before-i.ensures.before in
    let others = c.count_lines_before-i.ensures.others in
    none-at c.args.spans.now c.args.line c.count_lines_before-i.result c.requires before others (λ is. cc (c.is_line_at-3.ensures.1 is, c.if-is_line_at-3.false))
