-- Steps over simplified decoded maps.
use Rattle.std.proofs.Common.{◌≡◌, refl, sym, ap, ◌∙◌, true, false, cond, List, [], ◌∷◌, Option}
use Rattle.std.proofs.Common.{Some, None}
use Rattle.std.specs.List.{AllByRecursion}
use Rattle.std.specs.Str.{bytes_eq}
use Rattle.oxc_sourcemap_parts.specs.DecodedMap.{DecodedMap, OriginalPosition}
use Rattle.oxc_sourcemap_parts.specs.Record.{Text}
use Rattle.oxc_sourcemap_lookup.specs.Trace.{trace, clamped_trace}
use Rattle.oxc_sourcemap_steps.specs.Inputs.{input_for}
use Rattle.oxc_sourcemap_steps.specs.Simplified.{simplified_decoded_map}
use Rattle.oxc_sourcemap_steps.specs.SimplifyLaws.{IsSortedMap}
use Rattle.oxc_sourcemap_steps.proofs.Traces.{traces-stay}
use Rattle.oxc_sourcemap_plan.specs.TraceLaws.{leads_to, led_through, leads_by_input}
use Rattle.oxc_sourcemap_plan.specs.TraceLaws.{led_through_inputs}
use Rattle.oxc_sourcemap_plan.specs.SimplifyTraces.{SimplifiedComposed, SimplifiedRemapped}
use Rattle.oxc_sourcemap_plan.specs.SimplifyTraces.{SimplifiedJoined, simplified_inputs}
use Rattle.oxc_sourcemap_plan.proofs.TracesComposed.{traces_composed}
use Rattle.oxc_sourcemap_plan.proofs.TracesRemapped.{traces_remapped}
use Rattle.oxc_sourcemap_plan.proofs.TracesMoved.{traces_on_own_line}

led-same : (b : DecodedMap) → IsSortedMap b → (found : Option (Option OriginalPosition)) → led_through (simplified_decoded_map b) found ≡ led_through b found
led-same b h None = refl
led-same b h (Some None) = refl
led-same b h (Some (Some o)) = ap (λ c. Some (leads_to o c)) (traces-stay b h o.src_line o.src_col).1

pub simplified-composed : SimplifiedComposed
simplified-composed a b h k line col =
    let t = simplified_decoded_map a in
    let u = simplified_decoded_map b in
    let there = traces_composed t u line col in
    let here = traces_composed a b line col in
    let stay = traces-stay a h line col in (
      there.0 ∙ led-same b k (trace t line col) ∙ ap (led_through b) stay.0 ∙ sym here.0,
      there.1 ∙ led-same b k (clamped_trace t line col) ∙ ap (led_through b) stay.1 ∙ sym here.1,
    )

led-by : (o : OriginalPosition) (inputs : List (Text × DecodedMap)) → AllByRecursion (λ input. IsSortedMap input.1) inputs → (path : Text)
    → leads_by_input (input_for (simplified_inputs inputs) path) o ≡ leads_by_input (input_for inputs path) o
led-by o [] h path = refl
led-by o (input ∷ inputs) h path =
    elim (bytes_eq path input.0) as (λ b. leads_by_input (cond b (Some (simplified_decoded_map input.1)) (input_for (simplified_inputs inputs) path)) o ≡ leads_by_input (cond b (Some input.1) (input_for inputs path)) o) [
      | true ↦ ap (leads_to o) (traces-stay input.1 h.0 o.src_line o.src_col).1
      | false ↦ led-by o inputs h.1 path
    ]

led-inputs : (inputs : List (Text × DecodedMap)) → AllByRecursion (λ input. IsSortedMap input.1) inputs → (found : Option (Option OriginalPosition)) → led_through_inputs (simplified_inputs inputs) found ≡ led_through_inputs inputs found
led-inputs inputs h None = refl
led-inputs inputs h (Some None) = refl
led-inputs inputs h (Some (Some o)) = ap (λ p. Some p) (led-by o inputs h o.source.path)

pub simplified-remapped : SimplifiedRemapped
simplified-remapped a inputs h k line col =
    let t = simplified_decoded_map a in
    let there = traces_remapped t (simplified_inputs inputs) line col in
    let here = traces_remapped a inputs line col in
    let stay = traces-stay a h line col in (
      there.0 ∙ led-inputs inputs k (trace t line col) ∙ ap (led_through_inputs inputs) stay.0 ∙ sym here.0,
      there.1 ∙ led-inputs inputs k (clamped_trace t line col) ∙ ap (led_through_inputs inputs) stay.1 ∙ sym here.1,
    )

pub simplified-joined : SimplifiedJoined
simplified-joined before part after line col h alone =
    let there = traces_on_own_line before (simplified_decoded_map part.0, part.1) after line col alone in
    let here = traces_on_own_line before part after line col alone in
    let stay = traces-stay part.0 h line col in
    (there.0 ∙ stay.0 ∙ sym here.0, there.1 ∙ stay.1 ∙ sym here.1)
