use Rattle.std.proofs.Common.{rules, arith, ◌++◌, take, vec_len, ap, sym, ◌∙◌, subst}
use Rattle.std.specs.List.{All}
use Rattle.std.proofs.lemmas.List.{take_all, take-append-le}
use Rattle.std.proofs.lemmas.List.Elements.{All-more, All-weaker}
use Rattle.oxc_sourcemap_tokens.specs.Token.{IsInBounds, AreInBounds}
use Rattle.oxc_sourcemap_join.specs.Joined.{shifted}
use Rattle.oxc_sourcemap_join.specs.Joining.{all_shifted, IsInReach}
use Rattle.oxc_sourcemap_join.proofs.Moving.{mapped-next}
use Rattle.oxc_sourcemap_join.proofs.shift.push_each_down.Goals as goal

pub loop-token-preserved : goal.loop-token-preserved
loop-token-preserved c =
    let s = c.args.shift in
    let f = shifted s.names s.sources s.position in
    let l = c.loop-token in
    let old = c.args.tokens.now in
    let xs = c.args.added.now in
    let t = c.token-item.result in
    let reach = All-weaker (IsInReach l.reach) (IsInReach c.with-reach.result) c.with-reach.ensures.others (take l.token-index xs) l.invariant.reach in
    record {
      front = ap (take (vec_len old)) c.push_reserved.ensures.items ∙ take-append-le (vec_len old) l.tokens.items _ (omega (arith, l.invariant.len, l.tokens.ok)) ∙ l.invariant.front;
      items = λ h. c.push_reserved.ensures.items ∙ mapped-next IsInBounds f xs l.token-index t c.shift_by.result old.items l.tokens.items c.loop-token-test.true c.token-item.is c.shift_by.ensures l.invariant.items h;
      reach = All-more (IsInReach c.with-reach.result) xs l.token-index _ c.loop-token-test.true reach (subst (IsInReach c.with-reach.result) c.token-item.is c.with-reach.ensures.token);
      len = search rules;
      capacity = search rules;
    }

pub returns-clause-items : goal.returns-clause-items
returns-clause-items c =
    let s = c.args.shift in
    let all = take_all c.loop-token.token-index c.args.added.now c.loop-token-test.false in
    λ h. c.loop-token.invariant.items (subst (λ ts. AreInBounds (all_shifted s ts)) (sym all) h) ∙ ap (λ ts. c.args.tokens.now.items ++ all_shifted s ts) all

pub returns-clause-reach : goal.returns-clause-reach
returns-clause-reach c = subst (All (IsInReach c.loop-token.reach)) (take_all c.loop-token.token-index c.args.added.now c.loop-token-test.false) c.loop-token.invariant.reach
