use Rattle.std.proofs.Common.{◌∙◌, ap, refl, subst, sym, Err}
use Rattle.oxc_sourcemap_tokens.specs.declared.errors.plan_error.PlanError.TheVariants.{Map}
use Rattle.oxc_sourcemap_tokens.proofs.Carried.{carried_error}
use Rattle.oxc_sourcemap_parts.specs.Views.{record_of_parts}
use Rattle.oxc_sourcemap_steps.specs.Composed.{SomeComposition}
use Rattle.oxc_sourcemap_c.specs.declared.numbers.call_error.CallError.TheVariants.{Plan}
use Rattle.oxc_sourcemap_c.specs.CallErrors.{of_map}
use Rattle.oxc_sourcemap_c.specs.MapsOfMaps.{IsComposition}
use Rattle.oxc_sourcemap_c.proofs.making.maps_of_maps.compose_maps.Goals as goal

pub returns-in_err-parts-clause-error : goal.returns-in_err-parts-clause-error
returns-in_err-parts-clause-error c =
    let e = c.in_err-parts.field-0.0 in
    let first = c.parts_of.ensures ∙ c.as_source_map.ensures in
    let input = c.parts_of-2.ensures ∙ c.as_source_map-2.ensures in
    carried_error c.from_residual.result (of_map e) _ c.from_residual.ensures.1
    (λ n. (
      e,
      subst (λ b. SomeComposition c.args.first.now b (Err e)) input
          (subst (λ a. SomeComposition a (record_of_parts c.parts_of-2.result.now) (Err e)) first (c.in_err-parts.ensures.any_error (λ q. n (ap (λ x. Plan (Map x)) q)))),
      refl,
    ))

pub returns-clause-map : goal.returns-clause-map
returns-clause-map c =
    let first = c.parts_of.ensures ∙ c.as_source_map.ensures in
    let input = c.parts_of-2.ensures ∙ c.as_source_map-2.ensures in
    let lent = record_of_parts c.parts_of-2.result.now in
    let made = record_of_parts c.in_ok-parts.parts in
    let is : IsComposition (record_of_parts c.parts_of.result.now) lent made = record { some = c.in_ok-parts.ensures.any_map; defined = c.in_ok-parts.ensures.map } in
    subst (λ m. IsComposition c.args.first.now c.args.input.now m) (sym c.from_parts.ensures)
    (subst (λ b. IsComposition c.args.first.now b made) input (subst (λ a. IsComposition a lent made) first is))
