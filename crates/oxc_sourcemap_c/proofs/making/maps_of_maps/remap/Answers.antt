use Rattle.std.proofs.Common.{arith}
use Rattle.std.proofs.lemmas.List.{length-map}
use Rattle.oxc_sourcemap_tokens.specs.Results.{lent_items}
use Rattle.oxc_sourcemap_c.proofs.MapsOfMaps.{is_there, none_sure_remap, remap_lengths}
use Rattle.oxc_sourcemap_c.proofs.making.maps_of_maps.remap.Goals as goal

pub returns-then-paths-inputs-clause-error : goal.returns-then-paths-inputs-clause-error
returns-then-paths-inputs-clause-error c = λ n.
    remap_lengths c.args.map.now.held (lent_items c.args.paths.now) c.args.inputs.now (is_there _ _ c.in_ok-map.ensures.map) c.in_ok-all_lengths.ensures.there
    (λ q. omega (arith, c.if-paths-inputs.true, length-map c.args.paths.now (λ p. p.now), q))

pub returns-in_err-inputs-clause-sure : goal.returns-in_err-inputs-clause-sure
returns-in_err-inputs-clause-sure c = λ r sure.
    absurd (none_sure_remap c.args.map.now.held (lent_items c.args.paths.now) c.args.inputs.now r (is_there _ _ c.in_ok-map.ensures.map) c.in_ok-all_lengths.ensures.there
    (omega (arith, c.if-paths-inputs.false, length-map c.args.paths.now (λ p. p.now))) sure)

pub returns-clause-sure : goal.returns-clause-sure
returns-clause-sure c = λ r sure.
    absurd (none_sure_remap c.args.map.now.held (lent_items c.args.paths.now) c.args.inputs.now r (is_there _ _ c.in_ok-map.ensures.map) c.in_ok-all_lengths.ensures.there
    (omega (arith, c.if-paths-inputs.false, length-map c.args.paths.now (λ p. p.now))) sure)
