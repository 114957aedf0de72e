use Rattle.std.proofs.Common.{refl, ◌∙◌, sym, ap, Some, arith}
use Rattle.oxc_sourcemap_map.specs.Places.{token_original}
use Rattle.oxc_sourcemap_map.proofs.Searched.{for_found, for_before, for_nothing}
use Rattle.oxc_sourcemap_map.proofs.reverse.search.find_for.Goals as goal

pub returns-then-is_hit-clause-found : goal.returns-then-is_hit-clause-found
returns-then-is_hit-clause-found c =
    let hit = c.if-is_hit.ensures.hit.0 refl in
    ap Some c.token_at.ensures
    ∙ sym (for_found c.args.tokens.now c.args.order.now c.requires.order c.args.source_id c.args.line c.args.col c.original_number-place.result c.count_before-start.result (omega (arith, c.ranges.line)) (omega (arith, c.ranges.col)) c.original_number-place.ensures.value c.count_before-start.ensures.bound c.count_before-start.ensures.before c.count_before-start.ensures.others hit.0 hit.1)

pub returns-then-start-eq0-clause-found : goal.returns-then-start-eq0-clause-found
returns-then-start-eq0-clause-found c =
    sym (for_nothing c.args.tokens.now c.args.order.now c.requires.order c.args.source_id c.args.line c.args.col c.original_number-place.result c.count_before-start.result (omega (arith, c.ranges.line)) (omega (arith, c.ranges.col)) c.original_number-place.ensures.value c.count_before-start.ensures.bound c.count_before-start.ensures.before c.count_before-start.ensures.others (λ lt e. let f = c.if-is_hit.ensures.hit.1 (lt, e) in cc (f)) (λ h. absurd (omega (arith, h, c.if-start-eq0.true))))

pub returns-then-counted_original-original_number-clause-found : goal.returns-then-counted_original-original_number-clause-found
returns-then-counted_original-original_number-clause-found c =
    sym (for_nothing c.args.tokens.now c.args.order.now c.requires.order c.args.source_id c.args.line c.args.col c.original_number-place.result c.count_before-start.result (omega (arith, c.ranges.line)) (omega (arith, c.ranges.col)) c.original_number-place.ensures.value c.count_before-start.ensures.bound c.count_before-start.ensures.before c.count_before-start.ensures.others (λ lt e. let f = c.if-is_hit.ensures.hit.1 (lt, e) in cc (f))
    (λ h. omega (arith, c.if-counted_original-original_number.true, c.counted_original.ensures.value, ap token_original c.token_at-near.ensures, c.original_number.ensures.value)))

pub returns-clause-found : goal.returns-clause-found
returns-clause-found c =
    ap Some c.token_at-near.ensures
    ∙ sym (for_before c.args.tokens.now c.args.order.now c.requires.order c.args.source_id c.args.line c.args.col c.original_number-place.result c.count_before-start.result (omega (arith, c.ranges.line)) (omega (arith, c.ranges.col)) c.original_number-place.ensures.value c.count_before-start.ensures.bound c.count_before-start.ensures.before c.count_before-start.ensures.others (λ lt e. let f = c.if-is_hit.ensures.hit.1 (lt, e) in cc (f)) (omega (arith, c.if-start-eq0.false))
    (omega (arith, c.if-counted_original-original_number.false, c.counted_original.ensures.value, ap token_original c.token_at-near.ensures, c.original_number.ensures.value)))
