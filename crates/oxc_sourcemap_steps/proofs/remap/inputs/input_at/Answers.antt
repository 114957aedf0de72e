use Rattle.std.proofs.Common.{◌≡◌, ◌∙◌, refl, sym, ap, subst, length, option_map, Some, None}
use Rattle.std.proofs.Common.{Option, Bor, arith}
use Rattle.std.proofs.lemmas.Option.{slice_get_read}
use Rattle.oxc_sourcemap_parts.specs.Texts.{index_of}
use Rattle.oxc_sourcemap_steps.specs.RemapSteps.{ready_records, input_paths, IsFor}
use Rattle.oxc_sourcemap_steps.specs.declared.remap.inputs.Input.{Input}
use Rattle.oxc_sourcemap_steps.proofs.InputPlaces.{input-within, for-path, none-for}
use Rattle.oxc_sourcemap_steps.proofs.remap.inputs.input_at.Goals as goal

pub returns-in_err-place : goal.returns-in_err-place
returns-in_err-place c =
    let inputs = c.args.inputs.now in
    let path = c.args.path.now in
    let index : index_of path (input_paths inputs) ≡ None = sym (c.requires.places path) ∙ sym c.get.ensures.value ∙ ap (option_map (λ x. x.now)) c.in_err-place.was in
    subst (λ (o : Option (Bor Input)). IsFor (ready_records inputs) path o) (sym c.from_residual.ensures) (none-for inputs path index)

pub bounds-inputs-place : goal.bounds-inputs-place
bounds-inputs-place c =
    let inputs = c.args.inputs.now in
    let path = c.args.path.now in
    let i = c.in_ok-place.field-0.now in
    let index : index_of path (input_paths inputs) ≡ Some i = sym (c.requires.places path) ∙ sym c.get.ensures.value ∙ ap (option_map (λ x. x.now)) c.in_ok-place.was in
    input-within inputs path i c.requires.ready index

pub offset_bounds-inputs-place : goal.offset_bounds-inputs-place
offset_bounds-inputs-place c =
    let inputs = c.args.inputs.now in
    let path = c.args.path.now in
    let i = c.in_ok-place.field-0.now in
    let index : index_of path (input_paths inputs) ≡ Some i = sym (c.requires.places path) ∙ sym c.get.ensures.value ∙ ap (option_map (λ x. x.now)) c.in_ok-place.was in
    let within = input-within inputs path i c.requires.ready index in
    grind (arith, within)

pub returns : goal.returns
returns c =
    let inputs = c.args.inputs.now in
    let path = c.args.path.now in
    let i = c.in_ok-place.field-0.now in
    let index : index_of path (input_paths inputs) ≡ Some i = sym (c.requires.places path) ∙ sym c.get.ensures.value ∙ ap (option_map (λ x. x.now)) c.in_ok-place.was in
    let within = input-within inputs path i c.requires.ready index in
    for-path inputs path i c.index-inputs-place.result c.requires.ready index (slice_get_read inputs (length inputs) i c.index-inputs-place.result refl within c.index-inputs-place.is)
