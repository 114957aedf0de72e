use Rattle.std.proofs.Common.{◌+◌, ◌-◌, arith}
use Rattle.oxc_sourcemap_lookup.proofs.ColumnSearches.{slice-part}
use Rattle.oxc_sourcemap_lookup.proofs.LineStarts.{line-left}
use Rattle.oxc_sourcemap_lookup.proofs.line_index.line_among.Goals as goal

pub overflow_add-result : goal.overflow_add-result
overflow_add-result c =
    let lies = line-left c.args.line _ _ _ c.args.tokens.now c.requires (c.line_start-start.ensures.start c.requires) c.from.ensures c.line_length-count.ensures in
    omega (arith, lies.0)

pub slice_bounds-result-end : goal.slice_bounds-result-end
slice_bounds-result-end c = (line-left c.args.line _ _ _ c.args.tokens.now c.requires (c.line_start-start.ensures.start c.requires) c.from.ensures c.line_length-count.ensures).0

pub returns-clause-tokens : goal.returns-clause-tokens
returns-clause-tokens c = (line-left c.args.line _ _ _ c.args.tokens.now c.requires (c.line_start-start.ensures.start c.requires) c.from.ensures c.line_length-count.ensures).1

pub returns-clause-part : goal.returns-clause-part
returns-clause-part c =
    let start = c.line_start-start.result in
    let lies = line-left c.args.line _ _ _ c.args.tokens.now c.requires (c.line_start-start.ensures.start c.requires) c.from.ensures c.line_length-count.ensures in
    slice-part start (start + c.line_length-count.result - start) c.args.tokens.now (omega (arith, lies.0))
