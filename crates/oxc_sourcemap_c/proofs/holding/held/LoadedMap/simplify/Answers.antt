use Rattle.std.proofs.Common.{Ok, ap, sym, refl, ◌∙◌}
use Rattle.oxc_sourcemap_tokens.proofs.Carried.{carried_error}
use Rattle.oxc_sourcemap_steps.specs.Simplified.{simplification}
use Rattle.oxc_sourcemap_c.specs.declared.numbers.call_error.CallError.TheVariants.{Plan}
use Rattle.oxc_sourcemap_c.specs.Indices.{Loaded}
use Rattle.oxc_sourcemap_c.proofs.holding.held.LoadedMap.simplify.Goals as goal

pub returns-in_err-simplify-clause-error : goal.returns-in_err-simplify-clause-error
returns-in_err-simplify-clause-error c =
    let same = c.in_ok-map.ensures.map ∙ ap (λ (l : Loaded). l.map) c.self.view_is in
    carried_error c.from_residual-in_err-simplify.result (Plan c.in_err-simplify.field-0.0) _ c.from_residual-in_err-simplify.ensures.1
    (λ n. (c.in_err-simplify.field-0.0, ap simplification (sym same) ∙ c.in_err-simplify.ensures.error (λ q. n (ap (λ x. Plan x) q)), refl))

pub returns-clause-simplified : goal.returns-clause-simplified
returns-clause-simplified c =
    let same = c.in_ok-map.ensures.map ∙ ap (λ (l : Loaded). l.map) c.self.view_is in
    let made = c.in_ok-made.ensures.map in (
      ap simplification (sym same) ∙ c.in_ok-simplify.ensures.simplified ∙ ap (λ x. Ok x) (sym (ap (λ (l : Loaded). l.map) c.replace.ensures ∙ made.0)),
      ap (λ (l : Loaded). l.has_order) c.replace.ensures ∙ made.1,
    )
