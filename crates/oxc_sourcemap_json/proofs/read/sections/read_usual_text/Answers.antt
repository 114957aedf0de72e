use Rattle.std.proofs.Common.{ℕ, ◌∙◌, subst, IfSome, Err}
use Rattle.oxc_sourcemap_tokens.proofs.Carried.{carried_error}
use Rattle.oxc_sourcemap_json.specs.JsonRecord.{usual_record}
use Rattle.oxc_sourcemap_json.specs.Usual.{IsJsonOf}
use Rattle.oxc_sourcemap_json.specs.Words.{IsPlacedIn}
use Rattle.oxc_sourcemap_json.proofs.ReadPlaces.{usual-place, usual-located}
use Rattle.oxc_sourcemap_json.proofs.read.sections.read_usual_text.Goals as goal

pub returns-in_err-read_usual-in-Some-clause-place :
    goal.returns-in_err-read_usual-in-Some-clause-place
returns-in_err-read_usual-in-Some-clause-place c =
    let text = c.args.text.now in
    let is = subst (λ o. IfSome o (λ map. IsJsonOf text (usual_record map) map.ignored)) c.in-Some.is c.in_ok-map.ensures in
    carried_error c.from_residual-in_err-read_usual-in-Some.result c.in_err-read_usual-in-Some.field-0.0 (IsPlacedIn text) c.from_residual-in_err-read_usual-in-Some.ensures.1
    (usual-located {A = ℕ} text (usual_record c.in-Some.map) c.in-Some.map.ignored (Err c.in_err-read_usual-in-Some.field-0.0) is c.in_err-read_usual-in-Some.ensures.place).1

pub returns-in-Some-clause-none : goal.returns-in-Some-clause-none
returns-in-Some-clause-none c =
    let text = c.args.text.now in
    let is = subst (λ o. IfSome o (λ map. IsJsonOf text (usual_record map) map.ignored)) c.in-Some.is c.in_ok-map.ensures in
    λ d e. usual-place text (usual_record c.in-Some.map) c.in-Some.map.ignored is d e ∙ c.in_ok-read_usual-in-Some.ensures.place.0
