use Rattle.std.proofs.Common.{◌≡◌, ◌∙◌, ◌+◌, ◌∷◌, [], sym, ap, subst, drop, true, false, ◌&&◌}
use Rattle.std.proofs.Common.{arith, refl, ◌==◌, ◌≤◌, ◌≢◌, Some, length, Result, Ok, Err, IfErr}
use Rattle.std.specs.Result.{IsErrAnd}
use Rattle.oxc_sourcemap_tokens.specs.declared.errors.error.Error.{Error}
use Rattle.oxc_sourcemap_tokens.specs.declared.errors.error.Error.TheVariants.{OutOfMemory}
use Rattle.oxc_sourcemap_tokens.specs.declared.errors.error.Error.TheVariants.{TooLarge}
use Rattle.oxc_sourcemap_tokens.specs.declared.errors.plan_error.PlanError.{PlanError}
use Rattle.oxc_sourcemap_tokens.specs.declared.errors.plan_error.PlanError.TheVariants.{Map}
use Rattle.oxc_sourcemap_tokens.specs.declared.errors.plan_error.PlanError.TheVariants.{Unsorted}
use Rattle.std.proofs.lemmas.Grind.{common_steps}
use Rattle.std.proofs.lemmas.List.{drop_more, drop_all}
use Rattle.oxc_sourcemap_parts.specs.Sorted.{token_line, token_column}
use Rattle.oxc_sourcemap_tokens.specs.Results.{lent_item}
use Rattle.oxc_sourcemap_tokens.specs.Token.{TokenRecord}
use Rattle.oxc_sourcemap_steps.specs.Simple.{found_items}
use Rattle.oxc_sourcemap_steps.specs.SimplifySteps.{with_all, with_source, with_name, is_behind}
use Rattle.oxc_sourcemap_steps.specs.SimplifySteps.{is_before, position_of, repeats_by}
use Rattle.oxc_sourcemap_steps.proofs.SimplifyFound.{next-of, next-at}
use Rattle.oxc_sourcemap_steps.proofs.SimplifyWalk.{Walk, walk-start, walk-end, walk-hidden}
use Rattle.oxc_sourcemap_steps.proofs.SimplifyWalk.{walk-next}
use Rattle.oxc_sourcemap_steps.proofs.SimplifyWalk.{walk-error, goes-back, behind-is, lent-some}
use Rattle.oxc_sourcemap_steps.proofs.SimplifyWalk.{lent-at}
use Rattle.oxc_sourcemap_steps.proofs.simplify.tokens.kept_tokens.Goals as goal
use Rattle.oxc_sourcemap_steps.proofs.simplify.tokens.kept_tokens.Goals.{then-not-is_hidden+in_ok-repeats}
use Rattle.oxc_sourcemap_steps.proofs.simplify.tokens.kept_tokens.Goals.{else-not-is_hidden}

-- what keeping a token fails with
failed : {A : Type 0} (e : Error) (r : Result A PlanError) {P Q : Type 0} → IsErrAnd r (λ plan. plan ≡ Map e) → ((e ≢ OutOfMemory) → (e ≡ TooLarge) × P) → (P → Q) → IfErr r (λ plan. (plan ≢ Map OutOfMemory) → (plan ≢ Unsorted) → (plan ≡ Map TooLarge) × Q)
failed e (Ok x) is h f = tt
failed e (Err plan) is h f = λ other _. let q = h (λ g. other (is ∙ ap (λ x. Map x) g)) in (is ∙ ap (λ x. Map x) q.0, f q.1)

pub loop-i-init : goal.loop-i-init
loop-i-init c =
    let made = c.in_ok-kept.ensures in record {
      numbers = made.numbers;
      walk = walk-start c.args.tables.now c.args.tokens.now _ _ _ made.sources made.names made.tokens;
      last = refl;
      room = made.room;
    }

pub returns-then-position-last-clause-unsorted : goal.returns-then-position-last-clause-unsorted
returns-then-position-last-clause-unsorted c = λ _.
    let tokens = c.args.tokens.now in
    let i = c.loop-i.i in
    let t = c.index-tokens-i.result in
    let rest = drop (i + 1) tokens in
    let split : drop i tokens ≡ t ∷ rest = drop_more tokens i t c.loop-i-test.true ∙ ap (λ (u : TokenRecord). u ∷ rest) (sym c.index-tokens-i.is) in
    let w = c.loop-i.invariant.walk in
    sym w.sorted
    ∙ goes-back (lent_item c.loop-i.previous) t rest (drop i tokens) split c.token_position-position.ensures.below w.low
    (omega (arith, c.if-position-last.true, c.token_position-position.ensures.position, c.loop-i.invariant.last))

pub returns-in_err-repeats-clause-error : goal.returns-in_err-repeats-clause-error
returns-in_err-repeats-clause-error c =
    let tables = c.args.tables.now in
    let tokens = c.args.tokens.now in
    let i = c.loop-i.i in
    let p = lent_item c.loop-i.previous in
    let r = c.loop-i.repeats in
    let t = c.index-tokens-i.result in
    let rest = drop (i + 1) tokens in
    let ss = with_all (with_source tables) [] (found_items token_line token_column tokens) in
    let ns = with_all (with_name tables) [] (found_items token_line token_column tokens) in
    let split : drop i tokens ≡ t ∷ rest = drop_more tokens i t c.loop-i-test.true ∙ ap (λ (u : TokenRecord). u ∷ rest) (sym c.index-tokens-i.is) in
    let w = c.loop-i.invariant.walk in
    let at = c.token_position-position.ensures in
    let behind : (c.token_position-position.result == c.loop-i.last && c.is_some.result) ≡ is_behind p t =
    ap (λ n. n == c.loop-i.last && c.is_some.result) at.position ∙ ap (λ n. position_of (Some t) == n && c.is_some.result) c.loop-i.invariant.last
    ∙ ap (λ b. position_of (Some t) == position_of p && b) (c.is_some.ensures ∙ lent-some c.loop-i.previous) ∙ behind-is p t at.below w.low in
    let next : lent_item c.get.result ≡ next-of rest =
    lent-at c.get.result tokens (i + 1) c.get.ensures.lookup.0 (c.get.ensures.lookup.4 (omega arith)) ∙ sym (next-at (i + 1) tokens) in
    let hidden : c.is_hidden.result ≡ (is_behind p t && is_before t (next-of rest)) =
    c.is_hidden.ensures ∙ ap (λ b. b && is_before t (lent_item c.get.result)) behind ∙ ap (λ o. is_behind p t && is_before t o) next in
    let ahead : position_of p ≤ position_of (Some t) = omega (arith, c.if-position-last.false, at.position, c.loop-i.invariant.last) in
    let shown : (is_behind p t && is_before t (next-of rest)) ≡ false = sym hidden ∙ grind (arith, common_steps, c.if-not-is_hidden.true) in
    failed c.in_err-repeats.field-0.0 c.from_residual-in_err-repeats.result c.from_residual-in_err-repeats.ensures.1 c.in_err-repeats.ensures.error
    (walk-error tables tokens ss ns p r (drop i tokens) _ _ _ w t rest split shown _ (repeats_by tables p t) (ap (λ b. b && r) behind) refl)

pub loop-i-preserved : goal.loop-i-preserved
loop-i-preserved c =
    let tables = c.args.tables.now in
    let tokens = c.args.tokens.now in
    let i = c.loop-i.i in
    let p = lent_item c.loop-i.previous in
    let r = c.loop-i.repeats in
    let t = c.index-tokens-i.result in
    let rest = drop (i + 1) tokens in
    let ss = with_all (with_source tables) [] (found_items token_line token_column tokens) in
    let ns = with_all (with_name tables) [] (found_items token_line token_column tokens) in
    let split : drop i tokens ≡ t ∷ rest = drop_more tokens i t c.loop-i-test.true ∙ ap (λ (u : TokenRecord). u ∷ rest) (sym c.index-tokens-i.is) in
    let w = c.loop-i.invariant.walk in
    let at = c.token_position-position.ensures in
    let behind : (c.token_position-position.result == c.loop-i.last && c.is_some.result) ≡ is_behind p t =
    ap (λ n. n == c.loop-i.last && c.is_some.result) at.position ∙ ap (λ n. position_of (Some t) == n && c.is_some.result) c.loop-i.invariant.last
    ∙ ap (λ b. position_of (Some t) == position_of p && b) (c.is_some.ensures ∙ lent-some c.loop-i.previous) ∙ behind-is p t at.below w.low in
    let next : lent_item c.get.result ≡ next-of rest =
    lent-at c.get.result tokens (i + 1) c.get.ensures.lookup.0 (c.get.ensures.lookup.4 (omega arith)) ∙ sym (next-at (i + 1) tokens) in
    let hidden : c.is_hidden.result ≡ (is_behind p t && is_before t (next-of rest)) =
    c.is_hidden.ensures ∙ ap (λ b. b && is_before t (lent_item c.get.result)) behind ∙ ap (λ o. is_behind p t && is_before t o) next in
    let ahead : position_of p ≤ position_of (Some t) = omega (arith, c.if-position-last.false, at.position, c.loop-i.invariant.last) in
    let count = ap length split in
    elim c.if-not-is_hidden.branch [
      | then-not-is_hidden+in_ok-repeats v ↦ (
          let shown : (is_behind p t && is_before t (next-of rest)) ≡ false = sym hidden ∙ grind (arith, common_steps, v.if-not-is_hidden.true) in
          let did = v.in_ok-repeats.ensures in
          rw (v.kept-is, v.previous-is, v.last-is, v.repeats-is) (record {
            numbers = did.numbers;
            walk = walk-next tables tokens ss ns p r (drop i tokens) _ _ _ w t rest split shown _ v.in_ok-repeats.repeats (ap (λ b. b && r) behind) did.repeats _ _ _ at.below ahead did.sources did.names did.tokens did.few;
            last = at.position;
            room = omega (arith, count, c.loop-i.invariant.room, did.room.0, did.room.1);
          }))
      | else-not-is_hidden v ↦ (
          let gone : (is_behind p t && is_before t (next-of rest)) ≡ true = sym hidden ∙ grind (arith, common_steps, v.if-not-is_hidden.false) in
          rw (v.kept-is, v.previous-is, v.last-is, v.repeats-is) (record {
            numbers = c.loop-i.invariant.numbers;
            walk = walk-hidden tables tokens ss ns p r (drop i tokens) _ _ _ w t rest split at.below gone;
            last = c.loop-i.invariant.last;
            room = omega (arith, count, c.loop-i.invariant.room);
          }))
    ]

pub returns-clause-tokens : goal.returns-clause-tokens
returns-clause-tokens c =
    let tokens = c.args.tokens.now in
    let tables = c.args.tables.now in
    let none = drop_all c.loop-i.i tokens c.loop-i-test.false in
    let ss = with_all (with_source tables) [] (found_items token_line token_column tokens) in
    let ns = with_all (with_name tables) [] (found_items token_line token_column tokens) in
    let w = subst (λ us. Walk tables tokens ss ns (lent_item c.loop-i.previous) c.loop-i.repeats us c.loop-i.kept.numbers.sources.numbering.order.items c.loop-i.kept.numbers.names.numbering.order.items c.loop-i.kept.tokens.items) none c.loop-i.invariant.walk in
    let e = walk-end tables tokens ss ns _ _ _ _ _ w in
    rw (e.0, e.1.0) e.1.1.0

pub returns-clause-few : goal.returns-clause-few
returns-clause-few c =
    let tokens = c.args.tokens.now in
    let tables = c.args.tables.now in
    let none = drop_all c.loop-i.i tokens c.loop-i-test.false in
    let ss = with_all (with_source tables) [] (found_items token_line token_column tokens) in
    let ns = with_all (with_name tables) [] (found_items token_line token_column tokens) in
    let w = subst (λ us. Walk tables tokens ss ns (lent_item c.loop-i.previous) c.loop-i.repeats us c.loop-i.kept.numbers.sources.numbering.order.items c.loop-i.kept.numbers.names.numbering.order.items c.loop-i.kept.tokens.items) none c.loop-i.invariant.walk in
    (walk-end tables tokens ss ns _ _ _ _ _ w).1.1.1.0
