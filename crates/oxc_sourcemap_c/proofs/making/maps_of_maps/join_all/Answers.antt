use Rattle.std.proofs.Common.{arith, ap, sym, Err}
use Rattle.oxc_sourcemap_c.proofs.MapsOfMaps.{wrong_number, sure_null, sure_lengths, none_sure}
use Rattle.oxc_sourcemap_c.proofs.making.maps_of_maps.join_all.Goals as goal

pub returns-then-maps-positions-clause-error : goal.returns-then-maps-positions-clause-error
returns-then-maps-positions-clause-error c = λ n. wrong_number c.args.maps.now c.args.positions.now c.in_ok-lengths.ensures.there (λ q. omega (arith, c.if-maps-positions.true, q))

pub returns-in_err-lengths-clause-sure : goal.returns-in_err-lengths-clause-sure
returns-in_err-lengths-clause-sure c = λ r sure. let is = sure_null c.args.maps.now c.args.positions.now r c.in_err-lengths.ensures.error.1 sure in grind (arith, is, c.from_residual.ensures, c.in_err-lengths.ensures.error.0)

pub returns-then-maps-positions-clause-sure : goal.returns-then-maps-positions-clause-sure
returns-then-maps-positions-clause-sure c = λ r sure. ap (λ x. Err x) (sym (sure_lengths c.args.maps.now c.args.positions.now r c.in_ok-lengths.ensures.there sure))

pub returns-in_err-joined-clause-sure : goal.returns-in_err-joined-clause-sure
returns-in_err-joined-clause-sure c = λ r sure. absurd (none_sure c.args.maps.now c.args.positions.now r c.in_ok-lengths.ensures.there (omega (arith, c.if-maps-positions.false)) sure)

pub returns-in_err-add_all-clause-sure : goal.returns-in_err-add_all-clause-sure
returns-in_err-add_all-clause-sure c = λ r sure. absurd (none_sure c.args.maps.now c.args.positions.now r c.in_ok-lengths.ensures.there (omega (arith, c.if-maps-positions.false)) sure)

pub returns-clause-sure : goal.returns-clause-sure
returns-clause-sure c = λ r sure. absurd (none_sure c.args.maps.now c.args.positions.now r c.in_ok-lengths.ensures.there (omega (arith, c.if-maps-positions.false)) sure)
