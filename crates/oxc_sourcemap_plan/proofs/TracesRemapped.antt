-- The traces of a remapped map.
use Rattle.std.proofs.Common.{◌≡◌, refl, ap, ◌∙◌, List, Option, Some, None}
use Rattle.std.specs.Option.{option_map, option_and_then}
use Rattle.oxc_sourcemap_parts.specs.Record.{Text, MapRecord}
use Rattle.oxc_sourcemap_parts.specs.DecodedMap.{OriginalPosition, DecodedMapping, DecodedMap}
use Rattle.oxc_sourcemap_parts.specs.DecodedMap.{mapping_line, mapping_column, decoded_map_of}
use Rattle.oxc_sourcemap_lookup.specs.Lookup.{pick, clamped_pick}
use Rattle.oxc_sourcemap_lookup.specs.Trace.{trace, clamped_trace}
use Rattle.oxc_sourcemap_lookup.proofs.Picks.{pick-map, clamped_pick-map}
use Rattle.oxc_sourcemap_steps.specs.Inputs.{input_for, decoded_inputs}
use Rattle.oxc_sourcemap_steps.specs.Remapped.{remapped}
use Rattle.oxc_sourcemap_plan.specs.RemappedDecodedMaps.{original_through_input, remapped_original}
use Rattle.oxc_sourcemap_plan.specs.RemappedDecodedMaps.{remapped_mapping, remapped_decoded_map}
use Rattle.oxc_sourcemap_plan.specs.TraceLaws.{leads_by_input, led_through_inputs}
use Rattle.oxc_sourcemap_plan.specs.TraceLaws.{TracesLedThroughInputs}
use Rattle.oxc_sourcemap_plan.proofs.RemappedRecords.{decoded_map_remapped}
use Rattle.oxc_sourcemap_plan.proofs.TracesComposed.{leads}

by-input : (q : Option DecodedMap) (o : OriginalPosition) → original_through_input q o ≡ leads_by_input q o
by-input None o = refl
by-input (Some b) o = leads o (clamped_pick mapping_line mapping_column b.mappings o.src_line o.src_col)

-- a mapping that was found in the first decoded map
led : (inputs : List (Text × DecodedMap)) (q : Option DecodedMapping) → option_map (λ e. e.original) (option_map (remapped_mapping inputs) q) ≡ led_through_inputs inputs (option_map (λ e. e.original) q)
led inputs None = refl
led inputs (Some e) = elim e.original as (λ x. Some (option_and_then (remapped_original inputs) x) ≡ led_through_inputs inputs (Some x)) [
  | None ↦ refl
  | Some o ↦ ap (λ x. Some x) (by-input (input_for inputs o.source.path) o)
]

pub traces_remapped : (a : DecodedMap) (inputs : List (Text × DecodedMap)) → TracesLedThroughInputs (remapped_decoded_map a inputs) a inputs
traces_remapped a inputs = λ line col. (
  ap (option_map (λ e. e.original)) (pick-map (remapped_mapping inputs) mapping_line mapping_column a.mappings line col) ∙ led inputs (pick mapping_line mapping_column a.mappings line col),
  ap (option_map (λ e. e.original)) (clamped_pick-map (remapped_mapping inputs) mapping_line mapping_column a.mappings line col) ∙ led inputs (clamped_pick mapping_line mapping_column a.mappings line col),
)

pub traces_of_remapped_maps : (a : MapRecord) (inputs : List (Text × MapRecord)) → TracesLedThroughInputs (decoded_map_of (remapped a inputs)) (decoded_map_of a) (decoded_inputs inputs)
traces_of_remapped_maps a inputs =
    let e = decoded_map_remapped a inputs in
    λ line col. (
      ap (λ s. trace s line col) e ∙ (traces_remapped (decoded_map_of a) (decoded_inputs inputs) line col).0,
      ap (λ s. clamped_trace s line col) e ∙ (traces_remapped (decoded_map_of a) (decoded_inputs inputs) line col).1,
    )
