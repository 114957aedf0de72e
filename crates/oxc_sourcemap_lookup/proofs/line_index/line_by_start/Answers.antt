use Rattle.std.proofs.Common.{◌+◌, ◌-◌, get_or, arith, sym}
use Rattle.oxc_sourcemap_lookup.proofs.LineStarts.{start_of, starts_rise, starts_within}
use Rattle.oxc_sourcemap_lookup.proofs.LineStarts.{line_between, none_past}
use Rattle.oxc_sourcemap_lookup.proofs.ColumnSearches.{slice-part}
use Rattle.oxc_sourcemap_lookup.proofs.line_index.line_by_start.Goals as goal

pub slice_bounds-result-count : goal.slice_bounds-result-count
slice_bounds-result-count c = starts_rise c.args.tokens.now c.args.starts.now c.requires c.args.line _ _ 0 c.if-next-starts.true (omega arith) (omega arith)

pub slice_bounds-result-start : goal.slice_bounds-result-start
slice_bounds-result-start c = starts_rise c.args.tokens.now c.args.starts.now c.requires c.args.line _ _ 0 c.if-next-starts.true (omega arith) (omega arith)

pub slice_bounds-result-end : goal.slice_bounds-result-end
slice_bounds-result-end c = starts_within c.args.tokens.now c.args.starts.now c.requires (c.args.line + 1) _ 0 c.if-next-starts.true (omega arith)

pub returns-then-next-starts-clause-tokens : goal.returns-then-next-starts-clause-tokens
returns-then-next-starts-clause-tokens c = line_between c.args.tokens.now c.args.starts.now c.requires c.args.line _ _ 0 c.if-next-starts.true (omega arith) (omega arith)

pub returns-then-next-starts-clause-start : goal.returns-then-next-starts-clause-start
returns-then-next-starts-clause-start c = λ some. start_of c.args.tokens.now c.args.starts.now c.requires c.args.line _ 0 (omega (arith, c.if-next-starts.true)) (omega arith)

pub returns-else-next-starts-clause-tokens : goal.returns-else-next-starts-clause-tokens
returns-else-next-starts-clause-tokens c = sym (none_past c.args.tokens.now c.args.starts.now c.requires c.args.line (omega (arith, c.if-next-starts.false)))

pub returns-then-next-starts-clause-part : goal.returns-then-next-starts-clause-part
returns-then-next-starts-clause-part c =
    let tokens = c.args.tokens.now in
    let starts = c.args.starts.now in
    let line = c.args.line in
    let rise = starts_rise tokens starts c.requires line (line + 1 - 1) (line + 1) 0 c.if-next-starts.true (omega arith) (omega arith) in
    let within = starts_within tokens starts c.requires (line + 1) (line + 1) 0 c.if-next-starts.true (omega arith) in
    let start = get_or starts (line + 1 - 1) 0 in
    slice-part start (get_or starts (line + 1) 0 - start) tokens (omega (arith, rise, within))
