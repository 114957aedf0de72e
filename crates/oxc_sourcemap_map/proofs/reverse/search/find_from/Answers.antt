use Rattle.std.proofs.Common.{◌∙◌, sym, ap, Some, arith}
use Rattle.oxc_sourcemap_map.specs.Places.{token_original}
use Rattle.oxc_sourcemap_map.proofs.Searched.{from_after, from_none_left, from_found}
use Rattle.oxc_sourcemap_map.proofs.reverse.search.find_from.Goals as goal

pub returns-then-start-order-clause-found : goal.returns-then-start-order-clause-found
returns-then-start-order-clause-found c =
    sym (from_none_left c.args.tokens.now c.args.order.now c.requires.order c.args.source_id c.args.line c.args.col c.original_number-place.result c.count_before-start.result (omega (arith, c.ranges.line)) (omega (arith, c.ranges.col)) c.original_number-place.ensures.value c.count_before-start.ensures.bound c.count_before-start.ensures.before c.count_before-start.ensures.others (λ h. absurd (omega (arith, h, c.if-start-order.true))))

pub returns-then-near_original-original_number-clause-found : goal.returns-then-near_original-original_number-clause-found
returns-then-near_original-original_number-clause-found c =
    sym (from_none_left c.args.tokens.now c.args.order.now c.requires.order c.args.source_id c.args.line c.args.col c.original_number-place.result c.count_before-start.result (omega (arith, c.ranges.line)) (omega (arith, c.ranges.col)) c.original_number-place.ensures.value c.count_before-start.ensures.bound c.count_before-start.ensures.before c.count_before-start.ensures.others
    (λ h. omega (arith, c.if-near_original-original_number.true, c.counted_original-near_original.ensures.value, ap token_original c.token_at-near.ensures, c.original_number.ensures.value)))

pub returns-then-near_original-place-clause-found : goal.returns-then-near_original-place-clause-found
returns-then-near_original-place-clause-found c =
    let at = ap token_original c.token_at-near.ensures in
    ap Some c.token_at-near.ensures
    ∙ sym (from_after c.args.tokens.now c.args.order.now c.requires.order c.args.source_id c.args.line c.args.col c.original_number-place.result c.count_before-start.result (omega (arith, c.ranges.line)) (omega (arith, c.ranges.col)) c.original_number-place.ensures.value c.count_before-start.ensures.bound c.count_before-start.ensures.before c.count_before-start.ensures.others
    (λ lt e. omega (arith, e, at, c.counted_original-near_original.ensures.value, c.if-near_original-place.true))
    (omega (arith, c.count_before-start.ensures.bound, c.if-start-order.false))
    (omega (arith, at, c.if-near_original-original_number.false, c.counted_original-near_original.ensures.value, c.original_number.ensures.value)))

pub returns-clause-found : goal.returns-clause-found
returns-clause-found c =
    let at = ap token_original c.token_at-near.ensures in
    let found = from_found c.args.tokens.now c.args.order.now c.requires.order c.args.source_id c.args.line c.args.col c.original_number-place.result c.count_before-start.result (omega (arith, c.ranges.line)) (omega (arith, c.ranges.col)) c.original_number-place.ensures.value c.count_before-start.ensures.bound c.count_before-start.ensures.before c.count_before-start.ensures.others c.count_before-end.result
    (omega (arith, c.count_before-start.ensures.bound, c.if-start-order.false))
    (omega (arith, at, c.if-near_original-place.false, c.counted_original-near_original.ensures.value))
    c.count_before-end.ensures.bound c.count_before-end.ensures.before c.count_before-end.ensures.others in
    ap Some c.token_at.ensures ∙ sym found.1
