use Rattle.std.proofs.Common.{◌≡◌, ◌∙◌, ◌+◌, ◌++◌, ◌∷◌, [], sym, ap, subst, arith, take}
use Rattle.std.proofs.lemmas.Grind.{common_steps}
use Rattle.std.proofs.lemmas.List.{map-append}
use Rattle.oxc_sourcemap_parts.specs.Record.{Text}
use Rattle.oxc_sourcemap_parts.specs.Views.{record_of_parts}
use Rattle.oxc_sourcemap_parts.specs.declared.parts.SourceMapParts.{SourceMapParts}
use Rattle.oxc_sourcemap_steps.proofs.Targets.{all-append}
use Rattle.oxc_sourcemap_steps.specs.RemapSteps.{IsReady, AreReady, ready_records}
use Rattle.oxc_sourcemap_steps.specs.Inputs.{input_records}
use Rattle.oxc_sourcemap_steps.proofs.remap.inputs.all_ready.Goals as goal

pub loop-path-preserved : goal.loop-path-preserved
loop-path-preserved g c =
    let record_of = g.M.AsParts.as_record in
    let xs = c.args.inputs.now in
    let k = c.loop-path.path-index in
    let item = c.loop-path-item.result in
    let old = c.loop-path.ready.items in
    let new = c.in_ok-ready_input.field-0 in
    let is = c.in_ok-ready_input.ensures.input in
    let more : take (k + 1) xs ≡ take k xs ++ item ∷ [] = grind (arith, common_steps) in
    let at : input_records record_of (take (k + 1) xs) ≡ input_records record_of (take k xs) ++ input_records record_of (item ∷ []) = ap (input_records record_of) more ∙ map-append _ (take k xs) (item ∷ []) in record {
      ready = subst AreReady (sym c.in_ok-push.ensures.items) (all-append IsReady old (new ∷ []) c.loop-path.invariant.ready (c.in_ok-ready_input.ensures.ready, tt));
      inputs = ap ready_records c.in_ok-push.ensures.items ∙ map-append _ old (new ∷ [])
          ∙ ap (λ is. is ++ ready_records (new ∷ [])) c.loop-path.invariant.inputs
          ∙ ap (λ (p : Text). input_records record_of (take k xs) ++ (p, record_of_parts new.map.now) ∷ []) is.0
          ∙ ap (λ (m : SourceMapParts). input_records record_of (take k xs) ++ (item.0.now, record_of_parts m) ∷ []) is.1
          ∙ ap (λ r. input_records record_of (take k xs) ++ (item.0.now, r) ∷ []) c.as_parts.ensures ∙ sym at;
    }
