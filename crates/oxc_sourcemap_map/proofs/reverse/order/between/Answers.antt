use Rattle.std.proofs.Common.{◌∙◌, sym, ap, subst, ℕ, ◌<◌, ◌≤◌, ◌==◌, length, get_or, arith}
use Rattle.std.proofs.lemmas.List.{length-map}
use Rattle.std.proofs.lemmas.List.Elements.{All-take, All-drop, All-map}
use Rattle.std.proofs.lemmas.List.Sorted.{IsNonDecreasingBy-take, IsNonDecreasingBy-drop}
use Rattle.std.specs.List.{filter, All}
use Rattle.std.specs.List.Sorted.{IsNonDecreasingBy}
use Rattle.oxc_sourcemap_tokens.specs.Token.{TokenRecord, IsInBounds}
use Rattle.oxc_sourcemap_map.specs.Places.{token_original, no_token, listed, AreBetween}
use Rattle.oxc_sourcemap_map.proofs.Runs.{map_part}
use Rattle.oxc_sourcemap_map.proofs.ReverseParts.{in_order, part_between, part_same}
use Rattle.oxc_sourcemap_map.proofs.ReverseParts.{part_same_index}
use Rattle.oxc_sourcemap_map.proofs.reverse.order.between.Goals as goal

pub part_of-requires-clause-forward : goal.part_of-requires-clause-forward
part_of-requires-clause-forward c =
    in_order (listed c.args.tokens.now c.args.order.now) c.args.from c.args.to _ _ c.requires.forward (omega (arith, c.count_before-start.ensures.bound, length-map c.args.order.now (λ i. get_or c.args.tokens.now i no_token)))
    c.count_before-start.ensures.before (λ i d g w. c.count_before-end.ensures.others i d g (omega (arith, w, length-map c.args.order.now (λ i. get_or c.args.tokens.now i no_token))))

pub returns-clause-within : goal.returns-clause-within
returns-clause-within c =
    let P : ℕ → Type 0 = λ i. i < length c.args.tokens.now in
    subst (λ xs. All P xs) (sym c.part_of.ensures) (All-take P _ _ (All-drop P _ _ c.requires.order.within))

pub returns-clause-in_bounds : goal.returns-clause-in_bounds
returns-clause-in_bounds c =
    let P : ℕ → Type 0 = λ i. i < length c.args.tokens.now in
    let part = subst (λ xs. All P xs) (sym c.part_of.ensures) (All-take P _ _ (All-drop P _ _ c.requires.order.within)) in
    All-map IsInBounds (λ i. get_or c.args.tokens.now i no_token) c.part_of.result.now (λ k d lt. c.requires.order.in_bounds _ no_token (part k d lt))

pub returns-clause-rises : goal.returns-clause-rises
returns-clause-rises c =
    let e = ap (listed c.args.tokens.now) c.part_of.ensures ∙ map_part (λ i. get_or c.args.tokens.now i no_token) c.args.order.now _ _ in
    subst (λ xs. IsNonDecreasingBy token_original xs) (sym e) (IsNonDecreasingBy-take token_original _ _ (IsNonDecreasingBy-drop token_original _ _ c.requires.order.rises))

pub returns-clause-only : goal.returns-clause-only
returns-clause-only c =
    let long = length-map c.args.order.now (λ i. get_or c.args.tokens.now i no_token) in
    let e = ap (listed c.args.tokens.now) c.part_of.ensures ∙ map_part (λ i. get_or c.args.tokens.now i no_token) c.args.order.now _ _ in
    subst (λ xs. AreBetween c.args.from c.args.to xs) (sym e)
    (part_between (listed c.args.tokens.now c.args.order.now) c.args.from c.args.to c.count_before-start.result c.count_before-end.result (omega (arith, c.count_before-end.ensures.bound, long))
    (λ i d g w. c.count_before-start.ensures.others i d g (omega (arith, w, long))) c.count_before-end.ensures.before)

pub returns-clause-each : goal.returns-clause-each
returns-clause-each c = λ place low high.
    let long = length-map c.args.order.now (λ i. get_or c.args.tokens.now i no_token) in
    let e = ap (listed c.args.tokens.now) c.part_of.ensures ∙ map_part (λ i. get_or c.args.tokens.now i no_token) c.args.order.now _ _ in
    let others = λ (i : ℕ) (d : TokenRecord) (g : c.count_before-end.result ≤ i) (w : i < length (listed c.args.tokens.now c.args.order.now)). c.count_before-end.ensures.others i d g (omega (arith, w, long)) in
    let starts = λ (i : ℕ) (d : TokenRecord) (g : c.count_before-start.result ≤ i) (w : i < length (listed c.args.tokens.now c.args.order.now)). c.count_before-start.ensures.others i d g (omega (arith, w, long)) in
    ap (filter (λ t. token_original t == place)) e
    ∙ part_same (listed c.args.tokens.now c.args.order.now) c.args.from c.args.to place _ _ low high
    (in_order (listed c.args.tokens.now c.args.order.now) c.args.from c.args.to _ _ c.requires.forward (omega (arith, c.count_before-start.ensures.bound, long)) c.count_before-start.ensures.before others)
    (omega (arith, c.count_before-end.ensures.bound, long)) c.count_before-start.ensures.before others

pub returns-clause-each_index : goal.returns-clause-each_index
returns-clause-each_index c = λ place low high.
    let long = length-map c.args.order.now (λ i. get_or c.args.tokens.now i no_token) in
    let others = λ (i : ℕ) (d : TokenRecord) (g : c.count_before-end.result ≤ i) (w : i < length (listed c.args.tokens.now c.args.order.now)). c.count_before-end.ensures.others i d g (omega (arith, w, long)) in
    ap (filter (λ i. token_original (get_or c.args.tokens.now i no_token) == place)) c.part_of.ensures
    ∙ part_same_index c.args.tokens.now c.args.order.now c.args.from c.args.to place _ _ low high
    (in_order (listed c.args.tokens.now c.args.order.now) c.args.from c.args.to _ _ c.requires.forward (omega (arith, c.count_before-start.ensures.bound, long)) c.count_before-start.ensures.before others)
    c.count_before-end.ensures.bound c.count_before-start.ensures.before c.count_before-end.ensures.others
