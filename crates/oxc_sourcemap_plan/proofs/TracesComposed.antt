-- The traces of a composition.
use Rattle.std.proofs.Common.{◌≡◌, refl, ap, ◌∙◌, Option, Some, None}
use Rattle.std.specs.Option.{option_map, option_and_then}
use Rattle.oxc_sourcemap_parts.specs.Record.{MapRecord}
use Rattle.oxc_sourcemap_parts.specs.DecodedMap.{OriginalPosition, DecodedMapping, DecodedMap}
use Rattle.oxc_sourcemap_parts.specs.DecodedMap.{mapping_line, mapping_column, decoded_map_of}
use Rattle.oxc_sourcemap_lookup.specs.Lookup.{pick, clamped_pick}
use Rattle.oxc_sourcemap_lookup.specs.Trace.{trace, clamped_trace}
use Rattle.oxc_sourcemap_steps.specs.Composed.{composed}
use Rattle.oxc_sourcemap_lookup.proofs.Picks.{pick-map, clamped_pick-map}
use Rattle.oxc_sourcemap_plan.specs.ComposedDecodedMaps.{named_by, original_through}
use Rattle.oxc_sourcemap_plan.specs.ComposedDecodedMaps.{composed_mapping, composed_decoded_maps}
use Rattle.oxc_sourcemap_plan.specs.ComposeLaws.{AreSourceIdsInRange, AreTokensInRange}
use Rattle.oxc_sourcemap_plan.specs.TraceLaws.{leads_to, led_through, TracesLedThrough}
use Rattle.oxc_sourcemap_plan.proofs.Compositions.{decoded_map_composed}

-- what a mapping that was found in the second decoded map says
pub leads : (o : OriginalPosition) (q : Option DecodedMapping) → option_map (named_by o) (option_and_then (λ e. e.original) q) ≡ leads_to o (option_map (λ e. e.original) q)
leads o None = refl
leads o (Some e) = elim e.original as (λ x. option_map (named_by o) x ≡ leads_to o (Some x)) [ None ↦ refl | Some found ↦ refl ]

-- a mapping that was found in the first decoded map
led : (b : DecodedMap) (q : Option DecodedMapping) → option_map (λ e. e.original) (option_map (composed_mapping b.mappings) q) ≡ led_through b (option_map (λ e. e.original) q)
led b None = refl
led b (Some e) = elim e.original as (λ x. Some (option_and_then (original_through b.mappings) x) ≡ led_through b (Some x)) [
  | None ↦ refl
  | Some o ↦ ap (λ x. Some x) (leads o (clamped_pick mapping_line mapping_column b.mappings o.src_line o.src_col))
]

pub traces_composed : (a b : DecodedMap) → TracesLedThrough (composed_decoded_maps a b) a b
traces_composed a b = λ line col. (
  ap (option_map (λ e. e.original)) (pick-map (composed_mapping b.mappings) mapping_line mapping_column a.mappings line col) ∙ led b (pick mapping_line mapping_column a.mappings line col),
  ap (option_map (λ e. e.original)) (clamped_pick-map (composed_mapping b.mappings) mapping_line mapping_column a.mappings line col) ∙ led b (clamped_pick mapping_line mapping_column a.mappings line col),
)

pub traces_of_composed_maps : (a b : MapRecord) → AreSourceIdsInRange a → AreTokensInRange b → TracesLedThrough (decoded_map_of (composed a b)) (decoded_map_of a) (decoded_map_of b)
traces_of_composed_maps a b h k =
    let e = decoded_map_composed a b h k in
    λ line col. (
      ap (λ s. trace s line col) e ∙ (traces_composed (decoded_map_of a) (decoded_map_of b) line col).0,
      ap (λ s. clamped_trace s line col) e ∙ (traces_composed (decoded_map_of a) (decoded_map_of b) line col).1,
    )
