use Rattle.std.proofs.Common.{arith, get_or, ◌∙◌}
use Rattle.std.proofs.lemmas.List.{drop_all}
use Rattle.oxc_sourcemap_tokens.proofs.Carried.{carried_error}
use Rattle.oxc_sourcemap_c.proofs.MapsOfMaps.{all_joined, any_default, joined_more, not_added}
use Rattle.oxc_sourcemap_c.proofs.making.maps_of_maps.add_all.Goals as goal

pub returns-in_err-add_lent-clause-error : goal.returns-in_err-add_lent-clause-error
returns-in_err-add_lent-clause-error c =
    let place = get_or c.args.positions.now c.loop-i.i (record { line = 0; column = 0 }) in
    carried_error c.from_residual.result c.in_err-add_lent.field-0.0 _ c.from_residual.ensures.1
    (λ n. not_added c.args.maps.now c.args.positions.now c.loop-i.i c.index-maps-i.result place c.loop-i.joined c.in_err-add_lent.field-0.0 (omega arith) (omega arith) c.index-maps-i.is (any_default c.args.positions.now c.loop-i.i _ place (omega arith)) c.requires.there c.requires.pairs c.loop-i.invariant (c.in_err-add_lent.ensures.error n))

pub loop-i-preserved : goal.loop-i-preserved
loop-i-preserved c =
    let place = get_or c.args.positions.now c.loop-i.i (record { line = 0; column = 0 }) in
    joined_more c.args.maps.now c.args.positions.now c.loop-i.i c.index-maps-i.result place c.loop-i.joined c.add_lent.new.joined (omega arith) (omega arith) c.index-maps-i.is (any_default c.args.positions.now c.loop-i.i _ place (omega arith)) c.in_ok-add_lent.ensures.added ∙ c.loop-i.invariant

pub returns-clause-joined : goal.returns-clause-joined
returns-clause-joined c = all_joined c.args.maps.now c.args.positions.now _ c.loop-i.i c.loop-i.joined c.requires.there c.requires.pairs (drop_all c.loop-i.i c.args.maps.now (omega arith)) c.loop-i.invariant
