use Rattle.std.proofs.Common.{◌≡◌, ◌∙◌, ap, map, subst, sym, Ok}
use Rattle.oxc_sourcemap_parts.specs.Record.{MapRecord}
use Rattle.oxc_sourcemap_parts.specs.Views.{record_of_parts}
use Rattle.oxc_sourcemap_steps.specs.Blocks.{remapped_sources}
use Rattle.oxc_sourcemap_steps.specs.RemapSteps.{source_records, without_sources}
use Rattle.oxc_sourcemap_steps.specs.Inputs.{decoded_inputs, owned_input_records}
use Rattle.oxc_sourcemap_steps.specs.Remapped.{SomeRemapping}
use Rattle.oxc_sourcemap_steps.proofs.MovedSources.{put-sources}
use Rattle.oxc_sourcemap_steps.proofs.remap.owned.remap_lent.Goals as goal

pub returns-clause-made : goal.returns-clause-made
returns-clause-made c =
    let a = record_of_parts c.args.map.now in
    let inputs = owned_input_records c.args.inputs.items in
    let bare = record_of_parts c.in_ok-parts.parts in
    let remade = subst (λ is. (made : MapRecord) × SomeRemapping a (owned_input_records is) (Ok made) × (bare ≡ without_sources made)) c.as_slice.ensures.value c.in_ok-parts.ensures.map in
    let all = c.in_ok-sources-2.ensures ∙ ap (remapped_sources (decoded_inputs inputs)) c.in_ok-sources.ensures in
    subst (λ m. SomeRemapping a inputs (Ok m))
    (sym (c.in_ok-owned_parts.ensures.parts ∙ put-sources a inputs remade.0 bare (source_records c.in_ok-sources-2.sources.items) _ _ remade.1 remade.2 all c.in_ok-paths.ensures.paths c.in_ok-paths.ensures.contents)) remade.1
