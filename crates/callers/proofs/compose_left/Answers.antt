use Rattle.std.proofs.Common.{refl}
use Rattle.callers.proofs.Errors.{carried}
use Rattle.callers.proofs.Composing.{is-sorted-copy, left-is, left-error}
use Rattle.callers.proofs.compose_left.Goals as goal

pub returns-in_err-earlier-clause-error : goal.returns-in_err-earlier-clause-error
returns-in_err-earlier-clause-error c =
    let law = c.composition_associative.ensures in
    let call = c.in_err-earlier.ensures in
    let b' = c.in_ok-clone-2.ensures.map in
    carried c.from_residual-in_err-earlier.result c.in_err-earlier.field-0.0 _ c.from_residual-in_err-earlier.ensures.1
    (λ sb sc n. left-error c.args.first.now c.args.second.now c.args.third.now _ _ c.args.third.now c.in_ok-clone.ensures.map b' refl c.in_err-earlier.field-0.0
    (call.error (law.sorted_goes_on _ (is-sorted-copy c.args.second.now _ b' sb)) n))

pub returns-clause-map : goal.returns-clause-map
returns-clause-map c =
    let law = c.composition_associative.ensures in
    let a' = c.in_ok-clone.ensures.map in
    let b' = c.in_ok-clone-2.ensures.map in
    let c' = c.in_ok-clone-3.ensures.map in
    let earlier = c.in_ok-earlier.ensures in
    let call = c.in_ok-composed.ensures in
    λ sb sc. left-is c.args.first.now c.args.second.now c.args.third.now _ _ _ a' b' c' c.in_ok-earlier.earlier _ (earlier.map (law.sorted_goes_on _ (is-sorted-copy c.args.second.now _ b' sb)))
    (call.map (law.sorted_goes_on _ (is-sorted-copy c.args.third.now _ c' sc)))

pub returns-in_err-composed-clause-error : goal.returns-in_err-composed-clause-error
returns-in_err-composed-clause-error c =
    let law = c.composition_associative.ensures in
    let a' = c.in_ok-clone.ensures.map in
    let b' = c.in_ok-clone-2.ensures.map in
    let c' = c.in_ok-clone-3.ensures.map in
    let earlier = c.in_ok-earlier.ensures in
    let call = c.in_err-composed.ensures in
    carried c.from_residual-in_err-composed.result c.in_err-composed.field-0.0 _ c.from_residual-in_err-composed.ensures.1
    (λ sb sc n. left-is c.args.first.now c.args.second.now c.args.third.now _ _ _ a' b' c' c.in_ok-earlier.earlier _ (earlier.map (law.sorted_goes_on _ (is-sorted-copy c.args.second.now _ b' sb)))
    (call.error (law.sorted_goes_on _ (is-sorted-copy c.args.third.now _ c' sc)) n))
