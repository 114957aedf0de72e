use Rattle.std.proofs.Common.{subst, IfSome}
use Rattle.oxc_sourcemap_json.specs.JsonRecord.{usual_record}
use Rattle.oxc_sourcemap_json.specs.Usual.{IsJsonOf}
use Rattle.oxc_sourcemap_json.proofs.ReadPlaces.{usual-located}
use Rattle.oxc_sourcemap_json.proofs.read.sections.read_parts_from_string.Goals as goal

pub returns-in-Some-clause-place : goal.returns-in-Some-clause-place
returns-in-Some-clause-place c =
    let text = c.args.text.now in
    let is = subst (λ o. IfSome o (λ map. IsJsonOf text (usual_record map) map.ignored)) c.in-Some.is c.in_ok-map.ensures in
    usual-located text (usual_record c.in-Some.map) c.in-Some.map.ignored c.read_usual.result is c.read_usual.ensures.place
