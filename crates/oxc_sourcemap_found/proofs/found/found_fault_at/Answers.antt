use Rattle.std.proofs.Common.{refl, sym, subst}
use Rattle.std.proofs.lemmas.Result.{IfOk-weaker}
use Rattle.oxc_sourcemap_found.specs.FoundPlaces.{IsFoundPlace, HasPlaceIfRefused}
use Rattle.oxc_sourcemap_found.specs.FoundMaps.{found}
use Rattle.oxc_sourcemap_found.proofs.found.found_fault_at.Goals as goal

pub returns-in-Ok-clause-found : goal.returns-in-Ok-clause-found
returns-in-Ok-clause-found c = rw c.in-Ok.ensures.map.0 refl

pub returns-clause-place : goal.returns-clause-place
returns-clause-place c =
    let text = c.args.text.now in
    IfOk-weaker c.place_of.result _ _ (λ place h. subst (IsFoundPlace text) (sym h.1) (c.in-Err.ensures.place.1 h.0).0) c.place_of.ensures.place

pub returns-clause-found : goal.returns-clause-found
returns-clause-found c =
    let text = c.args.text.now in
    let fault = c.in-Err.fault in
    IfOk-weaker c.place_of.result _ _
    (λ place h. subst (HasPlaceIfRefused (found text)) (sym h.1) (rw (c.in-Err.ensures.map.1 h.0) (c.in-Err.ensures.place.1 h.0).1)) c.place_of.ensures.place
