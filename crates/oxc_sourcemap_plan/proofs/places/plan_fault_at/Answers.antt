use Rattle.std.proofs.Common.{◌≡◌, ap, sym, ◌∙◌, Err}
use Rattle.std.proofs.lemmas.Result.{IfOk-weaker}
use Rattle.oxc_sourcemap_tokens.specs.Results.{lent_items}
use Rattle.oxc_sourcemap_plan.proofs.Realizing.{join_laws}
use Rattle.oxc_sourcemap_plan.specs.PlanPlaces.{texts_of}
use Rattle.oxc_sourcemap_plan.proofs.Meant.{place_of_meant}
use Rattle.oxc_sourcemap_plan.proofs.places.plan_fault_at.Goals as goal

pub returns-in_ok-texts-in-Map-clause-meant : goal.returns-in_ok-texts-in-Map-clause-meant
returns-in_ok-texts-in-Map-clause-meant c =
    let law = c.dropping_harmless.ensures in
    let laws = join_laws law.tests_agree law.joins_up_to_repeats law.decoded_map_of_join law.in_range law.stands_for law.names law.tokens in
    let texts : lent_items c.as_slice.result.now ≡ texts_of c.args.plan.now = ap lent_items c.as_slice.ensures.value ∙ c.in_ok-texts-in-Map.ensures in
    IfOk-weaker c.texts_fault_at.result _ _ (λ place h w m e is r.
    place_of_meant laws c.args.plan.now c.in-Map.error (lent_items c.as_slice.result.now) place texts h w (m ∙ ap (λ x. Err x) c.in-Map.is) e (sym c.in-Map.is ∙ is) r)
    c.texts_fault_at.ensures.place
