use Rattle.std.proofs.Common.{arith, get_or, []}
use Rattle.std.proofs.lemmas.List.{drop_all}
use Rattle.oxc_sourcemap_tokens.specs.Results.{lent_items}
use Rattle.oxc_sourcemap_c.specs.MapsOfMaps.{by_path}
use Rattle.oxc_sourcemap_c.proofs.MapsOfMaps.{paired_more, all_paired, any_default}
use Rattle.oxc_sourcemap_c.proofs.making.maps_of_maps.with_paths.Goals as goal

pub loop-i-preserved : goal.loop-i-preserved
loop-i-preserved c =
    let path = get_or c.args.paths.now c.loop-i.i (record { ref_ptr = (0, 0); now = [] }) in
    paired_more c.args.paths.now c.args.maps.now c.loop-i.i path c.index-maps-i.result c.loop-i.inputs.items c.push.new.self.items (by_path (lent_items c.args.paths.now) (lent_items c.args.maps.now))
    (omega arith) (omega arith) (any_default c.args.paths.now c.loop-i.i _ path (omega arith)) c.index-maps-i.is c.in_ok-push.ensures.items c.loop-i.invariant

pub returns : goal.returns
returns c =
    all_paired c.args.paths.now c.args.maps.now c.loop-i.i c.loop-i.inputs.items _ (drop_all c.loop-i.i c.args.paths.now (omega arith)) c.loop-i.invariant
