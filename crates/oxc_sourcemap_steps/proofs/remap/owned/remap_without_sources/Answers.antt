use Rattle.std.proofs.Common.{◌≡◌, ◌∙◌, [], ap, map, option_map, subst, Ok}
use Rattle.std.specs.Cow.{cow_str_bytes}
use Rattle.oxc_sourcemap_parts.specs.Views.{record_of_parts}
use Rattle.oxc_sourcemap_steps.specs.Inputs.{input_records, owned_input_records}
use Rattle.oxc_sourcemap_steps.specs.Remapped.{SomeRemapping}
use Rattle.oxc_sourcemap_steps.proofs.remap.owned.remap_without_sources.Goals as goal

pub returns-clause-map : goal.returns-clause-map
returns-clause-map c =
    let made = record_of_parts c.in_ok-parts.parts in
    let inputs : input_records record_of_parts c.as_slice.result.now ≡ owned_input_records c.args.inputs.now = ap (input_records record_of_parts) c.as_slice.ensures.value ∙ c.in_ok-lent.ensures in (
      made,
      subst (λ is. SomeRemapping (record_of_parts c.args.map.now) is (Ok made)) inputs c.in_ok-parts.ensures.any_map,
      c.in_ok-owned_parts.ensures.parts
          ∙ ap (λ xs. record made { sources = xs; source_contents = map (option_map cow_str_bytes) c.new-2.result.items }) (ap (map cow_str_bytes) c.new.ensures.items)
          ∙ ap (λ xs. record made { sources = []; source_contents = xs }) (ap (map (option_map cow_str_bytes)) c.new-2.ensures.items),
    )
