use Rattle.std.proofs.Common.{◌++◌, ◌∙◌, sym, []}
use lib.Utf8.{encode}
use Rattle.std.specs.Str.Iter.{chars_rest}
use Rattle.oxc_sourcemap_text.proofs.LineCuts.{start, pass, cut-boundary, cut-utf8, cut-lines}
use Rattle.oxc_sourcemap_text.proofs.LineCuts.{one-line}
use Rattle.oxc_sourcemap_text.proofs.url.line.split_line.Goals as goal

pub loop-ch-init : goal.loop-ch-init
loop-ch-init c = ([], start c.args.text.now (chars_rest c.chars-rest.result) c.utf8.text c.chars-rest.ensures.rest)

pub split_at-requires : goal.split_at-requires
split_at-requires c =
    let passed = c.loop-ch.invariant in
    rw c.as_str-after.ensures (cut-boundary c.args.text.now _ passed.0 _ c.in-Some.ch passed.1 c.in-Some.ensures.steps.0)

pub returns-then-ends_line-clause-cut : goal.returns-then-ends_line-clause-cut
returns-then-ends_line-clause-cut c =
    let passed = c.loop-ch.invariant in
    let over = sym c.ends_line.ensures ∙ c.if-ends_line.true in
    rw (c.split_at.ensures.front, c.split_at.ensures.back, c.as_str-after.ensures)
    (cut-lines c.args.text.now _ passed.0 _ c.in-Some.ch passed.1 c.in-Some.ensures.steps.0 (rw c.as_str-after.ensures at over))

pub returns-then-ends_line-clause-utf8 : goal.returns-then-ends_line-clause-utf8
returns-then-ends_line-clause-utf8 c =
    let passed = c.loop-ch.invariant in
    rw (c.split_at.ensures.back, c.as_str-after.ensures)
    (cut-utf8 c.args.text.now _ passed.0 _ c.in-Some.ch passed.1 c.in-Some.ensures.steps.0)

pub loop-ch-preserved : goal.loop-ch-preserved
loop-ch-preserved c =
    let passed = c.loop-ch.invariant in
    let on = sym c.ends_line.ensures ∙ c.if-ends_line.false in (
      passed.0 ++ encode c.in-Some.ch,
      pass c.args.text.now _ passed.0 _ c.in-Some.ch passed.1 c.in-Some.ensures.steps.0 (rw c.as_str-after.ensures at on),
    )

pub returns-clause-last : goal.returns-clause-last
returns-clause-last c = λ _. one-line c.args.text.now _ c.loop-ch.invariant.0 c.loop-ch.invariant.1 c.in_default.ensures.steps.0.0
