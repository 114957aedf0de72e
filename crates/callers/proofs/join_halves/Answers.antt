use Rattle.std.proofs.Common.{◌∙◌, ap}
use Rattle.std.proofs.lemmas.Result.{IfOk-weaker}
use Rattle.oxc_sourcemap.specs.DecodedMap.{decoded_map_of}
use Rattle.oxc_sourcemap.specs.JoinLaws.{without_chunks}
use Rattle.callers.proofs.Joining.{two-groups}
use Rattle.callers.proofs.join_halves.Goals as goal

pub returns-clause-map : goal.returns-clause-map
returns-clause-map c =
    let groups = two-groups c.joins_associative.ensures.associative c.args.maps.now c.split_at.result.0.now c.split_at.result.1.now c.split_at.ensures.by_index.0 c.in_ok-first.first c.in_ok-second.second _ _ _
    c.in_ok-first.ensures.map c.in_ok-second.ensures.map c.empty-builder.ensures c.in_ok-add_sourcemap_owned.ensures.joined c.in_ok-add_sourcemap_owned-2.ensures.joined in
    IfOk-weaker c.into_sourcemap.result _ _ (λ m e. ap without_chunks e ∙ groups) c.into_sourcemap.ensures.map

pub returns-clause-decoded_map : goal.returns-clause-decoded_map
returns-clause-decoded_map c =
    let groups = two-groups c.joins_associative.ensures.associative c.args.maps.now c.split_at.result.0.now c.split_at.result.1.now c.split_at.ensures.by_index.0 c.in_ok-first.first c.in_ok-second.second _ _ _
    c.in_ok-first.ensures.map c.in_ok-second.ensures.map c.empty-builder.ensures c.in_ok-add_sourcemap_owned.ensures.joined c.in_ok-add_sourcemap_owned-2.ensures.joined in
    IfOk-weaker c.into_sourcemap.result _ _ (λ m e. ap decoded_map_of e ∙ ap decoded_map_of groups) c.into_sourcemap.ensures.map
