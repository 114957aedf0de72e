use Rattle.std.proofs.Common.{◌≡◌, inr, length, refl, ap, ◌∙◌, arith}
use Rattle.std.proofs.lemmas.List.{length-map}
use Rattle.oxc_sourcemap_tokens.specs.Results.{lent_items}
use Rattle.oxc_sourcemap_steps.specs.Inputs.{lent_inputs}
use Rattle.oxc_sourcemap_tokens.specs.declared.errors.plan_error.PlanError.TheVariants.{Map}
use Rattle.oxc_sourcemap_tokens.proofs.Carried.{carried_error}
use Rattle.oxc_sourcemap_c.specs.declared.numbers.call_error.CallError.TheVariants.{Plan}
use Rattle.oxc_sourcemap_c.specs.CallErrors.{of_map}
use Rattle.oxc_sourcemap_c.specs.MapsOfMaps.{by_path}
use Rattle.oxc_sourcemap_c.proofs.MapsOfMaps.{not_remapped}
use Rattle.oxc_sourcemap_c.proofs.making.maps_of_maps.remap_map.Goals as goal

pub returns-in_err-made-clause-error : goal.returns-in_err-made-clause-error
returns-in_err-made-clause-error c =
    let e = c.in_err-made.field-0.0 in
    let maps = lent_items c.args.inputs.now in
    let paths = lent_items c.args.paths.now in
    let many : length paths ≡ length maps = omega (arith, length-map c.args.paths.now (λ p. p.now), length-map c.args.inputs.now (λ m. m.now)) in
    let inputs = ap (λ xs. lent_inputs xs) c.as_slice-2.ensures.value ∙ c.in_ok-inputs.ensures ∙ ap (λ ps. by_path (lent_items ps) maps) c.as_slice.ensures.value ∙ ap (λ ts. by_path ts maps) c.in_ok-paths.ensures.texts.0 in
    carried_error c.from_residual-in_err-made.result (of_map e) _ c.from_residual-in_err-made.ensures.1
    (λ n. inr (
      many,
      inr (
        c.in_ok-paths.ensures.texts.1,
        e,
        not_remapped _ c.args.map.now _ (by_path paths maps) e refl inputs
            (c.in_err-made.ensures.any_error (λ q. n (ap (λ x. Plan (Map x)) q))),
        refl,
      ),
    ))
