use Rattle.std.proofs.Common.{arith, ◌≡◌, ◌+◌, ◌-◌, true, get_or, drop, ◌∙◌, sym, ap}
use Rattle.oxc_sourcemap_parts.specs.Sorted.{are_tokens_sorted, may_precede, token_line}
use Rattle.oxc_sourcemap_parts.specs.Sorted.{token_column}
use Rattle.oxc_sourcemap_parts.proofs.Order.{sorted-end, sorted-step, sorted_in_order}
use Rattle.oxc_sourcemap_parts.proofs.soundness.are_sorted.Goals as goal

pub loop-i-preserved : goal.loop-i-preserved
loop-i-preserved c =
    let tokens = c.args.tokens.now in
    let i = c.loop-i.i in
    let first = c.index-tokens-i.result in
    let second = c.index-tokens-i-in-loop-i.result in
    let yes : may_precede token_line token_column (get_or tokens (i - 1) first) (get_or tokens i second) ≡ true =
    sym (ap (λ t. may_precede token_line token_column t second) c.index-tokens-i.is ∙ ap (may_precede token_line token_column (get_or tokens (i - 1) first)) c.index-tokens-i-in-loop-i.is)
    ∙ sym c.precedes.ensures ∙ c.if-not-precedes.false in
    let next : i + 1 - 1 ≡ i = omega arith in
    ap (λ n. are_tokens_sorted (drop n tokens)) next ∙ sym (sorted-step tokens i first second (omega arith) c.loop-i-test.true yes) ∙ c.loop-i.invariant

pub returns-clause-sorted : goal.returns-clause-sorted
returns-clause-sorted c = sym (sorted-end c.args.tokens.now c.loop-i.i c.loop-i-test.false) ∙ c.loop-i.invariant

pub returns-clause-in_line_order : goal.returns-clause-in_line_order
returns-clause-in_line_order c = λ _. sorted_in_order c.args.tokens.now (sym c.loop-i.invariant ∙ sorted-end c.args.tokens.now c.loop-i.i c.loop-i-test.false)
