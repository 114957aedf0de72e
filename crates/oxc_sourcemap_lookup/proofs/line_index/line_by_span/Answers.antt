use Rattle.std.proofs.Common.{◌≡◌, ◌<◌, ◌-◌, ◌∙◌, ap, length, get_or, arith}
use Rattle.oxc_sourcemap_lookup.specs.LineSpans.{count_before_line}
use Rattle.oxc_sourcemap_lookup.proofs.LineIndices.{starts-at}
use Rattle.oxc_sourcemap_lookup.proofs.LineSpans.{found-at}
use Rattle.oxc_sourcemap_lookup.proofs.Tables.{in_order-from_0}
use Rattle.oxc_sourcemap_lookup.proofs.line_index.line_by_span.Goals as goal

pub returns-clause-start : goal.returns-clause-start
returns-clause-start c = λ some.
    let tokens = c.args.tokens.now in
    let i = c.in-Some.i in
    let span = get_or c.args.spans.now i (record { line = 0; start = 0; end = 0 }) in
    let found = found-at c.args.spans.now i c.args.line (record { line = 0; start = 0; end = 0 }) c.in-Some.ensures.found in
    let lies : i < length c.args.spans.now = found.0 in
    let same : span.line ≡ c.args.line = found.1 in
    let is = c.requires.each i (record { line = 0; start = 0; end = 0 }) lies in
    starts-at span.line 0 span.start (span.end - span.start) tokens (in_order-from_0 tokens c.requires.order) (omega (arith, is.some)) (omega (arith, is.some, is.within)) is.tokens_on
    ∙ ap (λ n. count_before_line n tokens) same
