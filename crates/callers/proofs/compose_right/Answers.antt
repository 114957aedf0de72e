use Rattle.std.proofs.Common.{refl}
use Rattle.callers.proofs.Errors.{carried}
use Rattle.callers.proofs.Composing.{is-sorted-copy, right-is, right-error, later-sorted}
use Rattle.callers.proofs.compose_right.Goals as goal

pub returns-in_err-later-clause-error : goal.returns-in_err-later-clause-error
returns-in_err-later-clause-error c =
    let law = c.composition_associative.ensures in
    let call = c.in_err-later.ensures in
    let c' = c.in_ok-clone-2.ensures.map in
    carried c.from_residual-in_err-later.result c.in_err-later.field-0.0 _ c.from_residual-in_err-later.ensures.1
    (λ sb sc n. right-error c.args.first.now c.args.second.now c.args.third.now c.args.first.now _ _ refl c.in_ok-clone.ensures.map c' c.in_err-later.field-0.0
    (call.error (law.sorted_goes_on _ (is-sorted-copy c.args.third.now _ c' sc)) n))

pub returns-clause-map : goal.returns-clause-map
returns-clause-map c =
    let law = c.composition_associative.ensures in
    let b' = c.in_ok-clone.ensures.map in
    let c' = c.in_ok-clone-2.ensures.map in
    let a' = c.in_ok-clone-3.ensures.map in
    let later = c.in_ok-later.ensures in
    let call = c.in_ok-composed.ensures in
    λ sb sc. right-is c.args.first.now c.args.second.now c.args.third.now _ _ _ a' b' c' c.in_ok-later.later _ (later.map (law.sorted_goes_on _ (is-sorted-copy c.args.third.now _ c' sc)))
    (call.map (law.sorted_goes_on _ (later-sorted c.args.first.now c.args.second.now c.args.third.now _ _ _ a' b' c' law.stands_for sb sc c.in_ok-later.later (later.map (law.sorted_goes_on _ (is-sorted-copy c.args.third.now _ c' sc))))))

pub returns-in_err-composed-clause-error : goal.returns-in_err-composed-clause-error
returns-in_err-composed-clause-error c =
    let law = c.composition_associative.ensures in
    let b' = c.in_ok-clone.ensures.map in
    let c' = c.in_ok-clone-2.ensures.map in
    let a' = c.in_ok-clone-3.ensures.map in
    let later = c.in_ok-later.ensures in
    let call = c.in_err-composed.ensures in
    carried c.from_residual-in_err-composed.result c.in_err-composed.field-0.0 _ c.from_residual-in_err-composed.ensures.1
    (λ sb sc n. right-is c.args.first.now c.args.second.now c.args.third.now _ _ _ a' b' c' c.in_ok-later.later _ (later.map (law.sorted_goes_on _ (is-sorted-copy c.args.third.now _ c' sc)))
    (call.error (law.sorted_goes_on _ (later-sorted c.args.first.now c.args.second.now c.args.third.now _ _ _ a' b' c' law.stands_for sb sc c.in_ok-later.later (later.map (law.sorted_goes_on _ (is-sorted-copy c.args.third.now _ c' sc))))) n))
