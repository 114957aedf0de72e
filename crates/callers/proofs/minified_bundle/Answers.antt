use Rattle.std.proofs.Common.{◌∙◌, ap, sym, inl}
use Rattle.oxc_sourcemap.specs.Composed.{composition}
use Rattle.oxc_sourcemap.specs.Joined.{joined, lent_maps}
use Rattle.oxc_sourcemap.specs.Record.{MapRecord}
use Rattle.oxc_sourcemap.specs.Sorted.{are_tokens_sorted}
use Rattle.oxc_sourcemap.specs.PlanError.TheVariants.{Map}
use Rattle.callers.proofs.Bundling.{bundle_laws, bundle-remapped, bundle-error}
use Rattle.callers.proofs.Errors.{carried}
use Rattle.callers.proofs.minified_bundle.Goals as goal

pub returns-in_err-bundle-clause-error : goal.returns-in_err-bundle-clause-error
returns-in_err-bundle-clause-error c =
    carried c.from_residual.result (Map c.in_err-bundle.field-0.0) _ c.from_residual.ensures.1
    (λ n. let past = c.in_err-bundle.ensures.error (λ q. n (ap (λ x. Map x) q)) in inl (ap (λ x. Map x) past.0, past.1))

pub returns-in_err-map-clause-error : goal.returns-in_err-map-clause-error
returns-in_err-map-clause-error c =
    let is = c.in_ok-bundle.ensures.map in
    let sorted = sym c.is_sorted.ensures.sorted ∙ c.if-not-is_sorted.false in
    let call = c.in_err-map.ensures.error (c.composition_associative.ensures.sorted_goes_on _ sorted) in
    carried c.from_residual-in_err-map.result (Map c.in_err-map.field-0.0) _ c.from_residual-in_err-map.ensures.1
    (λ n. bundle-error c.args.minified.now c.in_ok-copy.copy (joined (lent_maps c.args.modules.now)) c.in_err-map.field-0.0 _ _ c.in_ok-copy.ensures.map (sym (ap (λ (r : MapRecord). are_tokens_sorted r.tokens) is) ∙ sorted)
    (ap (composition c.in_ok-copy.copy) (sym is) ∙ call (λ q. n (ap (λ x. Map x) q))))

pub returns-clause-remapped : goal.returns-clause-remapped
returns-clause-remapped c =
    let of_composition = c.composition_associative.ensures in
    let of_join = c.dropping_harmless.ensures in
    let of_remapping = c.remapping_associative.ensures in
    let laws = bundle_laws of_composition.decoded_map_of_composition of_composition.keeps_up_to_repeats of_join.decoded_map_of_join of_join.in_range of_remapping.join of_remapping.composition of_remapping.keeps_up_to_repeats in
    let sorted = sym c.is_sorted.ensures.sorted ∙ c.if-not-is_sorted.false in
    let made = ap (composition c.in_ok-copy.copy) (sym c.in_ok-bundle.ensures.map) ∙ c.in_ok-map.ensures.map (of_composition.sorted_goes_on _ sorted) in
    λ sound all inputs. bundle-remapped laws c.args.minified.now c.in_ok-copy.copy c.in_ok-map.map _ c.in_ok-copy.ensures.map made sound all inputs
