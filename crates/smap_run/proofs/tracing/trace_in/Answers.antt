use Rattle.std.proofs.Common.{ap, sym, ◌∙◌, Ok}
use Rattle.std.specs.Option.{option_map}
use Rattle.oxc_sourcemap_parts.specs.Sorted.{are_tokens_sorted}
use Rattle.oxc_sourcemap_parts.specs.Views.{record_of_parts}
use Rattle.oxc_sourcemap_lookup.specs.Trace.{original_in}
use Rattle.smap_run.specs.Traced.{trace_text}
use Rattle.smap_run.proofs.Maps.{traced_token}
use Rattle.oxc_sourcemap_tokens.specs.declared.errors.plan_error.PlanError.TheVariants.{Map}
use Rattle.oxc_sourcemap_tokens.proofs.Carried.{carried_error}
use Rattle.smap_run.proofs.tracing.trace_in.Goals as goal

pub returns-in_err-token-clause-error : goal.returns-in_err-token-clause-error
returns-in_err-token-clause-error c =
    carried_error c.from_residual.result (Map c.in_err-token.field-0.0) _ c.from_residual.ensures.1
    (λ other. absurd (c.in_err-token.ensures.error (λ e. other (ap Map e))))

pub returns-in_ok-token_text-in-Some-clause-text : goal.returns-in_ok-token_text-in-Some-clause-text
returns-in_ok-token_text-in-Some-clause-text c =
    let r = record_of_parts c.args.map.now in
    let sorted = ap are_tokens_sorted (sym c.as_slice.ensures.value) ∙ sym c.are_sorted.ensures.sorted ∙ c.if-not-are_sorted.false in
    traced_token r c.args.line c.args.col c.in_ok-token.field-0 sorted c.in_ok-token.ensures.found ∙ ap (λ found. Ok (trace_text (option_map (original_in r) found))) c.in-Some.is
    ∙ ap (λ text. Ok text) (sym c.in_ok-token_text-in-Some.ensures.text)

pub returns-in_ok-from_str-in-None-clause-text : goal.returns-in_ok-from_str-in-None-clause-text
returns-in_ok-from_str-in-None-clause-text c =
    let r = record_of_parts c.args.map.now in
    let sorted = ap are_tokens_sorted (sym c.as_slice.ensures.value) ∙ sym c.are_sorted.ensures.sorted ∙ c.if-not-are_sorted.false in
    traced_token r c.args.line c.args.col c.in_ok-token.field-0 sorted c.in_ok-token.ensures.found ∙ ap (λ found. Ok (trace_text (option_map (original_in r) found))) c.in-None.is
    ∙ ap (λ text. Ok text) (sym c.in_ok-from_str-in-None.ensures.ok)
