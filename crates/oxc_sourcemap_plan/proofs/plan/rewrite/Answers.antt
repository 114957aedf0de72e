use Rattle.std.proofs.Common.{subst, sym}
use Rattle.oxc_sourcemap_parts.specs.Views.{record_of_parts}
use Rattle.oxc_sourcemap_json.specs.JsonRecord.{json_record}
use Rattle.oxc_sourcemap_plan.specs.Outcome.{rewrite_outcome}
use Rattle.oxc_sourcemap_plan.specs.Realizes.{FailsAs}
use Rattle.oxc_sourcemap_plan.proofs.Realizing.{rewrite_gives, rewrite_error, reading_error}
use Rattle.oxc_sourcemap_plan.proofs.Realizing.{unless_memory}
use Rattle.oxc_sourcemap_plan.proofs.Parts.{from_err}
use Rattle.oxc_sourcemap_plan.proofs.plan.rewrite.Goals as goal

pub returns-in_err-json-clause-error : goal.returns-in_err-json-clause-error
returns-in_err-json-clause-error c =
    let law = c.canonical_unique.ensures in
    let e = c.in_err-json.field-0.0 in
    from_err c.from_residual.result _ _ c.from_residual.ensures.1 (λ e' h o g. subst (λ x. FailsAs x (rewrite_outcome o)) (sym h)
    (unless_memory e (rewrite_outcome o) (λ n. rewrite_error law.sound_is_written law.sound_is_too_large (record_of_parts c.args.map) e (c.in_err-json.ensures.1 n) o g)))

pub returns-in_err-decode_parts-clause-error : goal.returns-in_err-decode_parts-clause-error
returns-in_err-decode_parts-clause-error c =
    let r = record_of_parts c.args.map in
    let e = c.in_err-decode_parts.field-0.0 in
    from_err c.from_residual-in_err-decode_parts.result _ _ c.from_residual-in_err-decode_parts.ensures.1 (λ e' h o g. subst (λ x. FailsAs x (rewrite_outcome o)) (sym h)
    (unless_memory e (rewrite_outcome o) (λ n. reading_error c.canonical_unique.ensures.sound_reads_back r (json_record c.in_ok-json.json) e c.in_ok-json.ensures.0 (c.in_err-decode_parts.ensures.map.1 n) o g)))

pub returns-clause-map : goal.returns-clause-map
returns-clause-map c = λ o g.
    let law = c.canonical_unique.ensures in
    rewrite_gives law.reads_again law.sound_reads_back law.sound_stays_sound (record_of_parts c.args.map) (record_of_parts c.in_ok-decode_parts.field-0) (json_record c.in_ok-json.json) c.in_ok-json.ensures.0 c.in_ok-decode_parts.ensures.map.0 o g
