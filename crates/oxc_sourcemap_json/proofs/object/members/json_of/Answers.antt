use Rattle.std.proofs.Common.{◌≢◌, refl, ap, sym, ◌∙◌, codes}
use Rattle.serde_json.specs.Find.{get}
use Rattle.serde_json.specs.View.{view}
use Rattle.serde_json.proofs.Views.{view-Object}
use Rattle.oxc_sourcemap_tokens.proofs.Carried.{carried_error}
use Rattle.oxc_sourcemap_tokens.specs.declared.errors.error.Error.TheVariants.{OutOfMemory}
use Rattle.oxc_sourcemap_tokens.specs.declared.errors.error.Field.TheVariants.{File, Mappings}
use Rattle.oxc_sourcemap_tokens.specs.declared.errors.error.Field.TheVariants.{SourceRoot, DebugId}
use Rattle.oxc_sourcemap_tokens.specs.declared.errors.fault.Fault.{Fault}
use Rattle.oxc_sourcemap_json.specs.Words.{lent_member}
use Rattle.oxc_sourcemap_json.proofs.ShapeSpots.{IsWithin, at-member, at-ids}
use Rattle.oxc_sourcemap_json.proofs.object.members.json_of.Goals as goal

pub returns-in_err-file-clause-place : goal.returns-in_err-file-clause-place
returns-in_err-file-clause-place c =
    carried_error c.from_residual-in_err-file.result c.in_err-file.field-0.0 (λ (f : Fault). (f.error ≢ OutOfMemory) → IsWithin (view c.args.value) f) c.from_residual-in_err-file.ensures.1
    (λ n. at-member File (λ x. refl) (view c.args.value) c.in_err-file.field-0.0 (c.in_err-file.ensures.fault n))

pub returns-in_err-mappings-clause-place : goal.returns-in_err-mappings-clause-place
returns-in_err-mappings-clause-place c =
    carried_error c.from_residual-in_err-mappings.result c.in_err-mappings.field-0.0 (λ (f : Fault). (f.error ≢ OutOfMemory) → IsWithin (view c.args.value) f) c.from_residual-in_err-mappings.ensures.1
    (λ n. at-member Mappings (λ x. refl) (view c.args.value) c.in_err-mappings.field-0.0 (c.in_err-mappings.ensures.fault n))

pub returns-in_err-source_root-clause-place : goal.returns-in_err-source_root-clause-place
returns-in_err-source_root-clause-place c =
    carried_error c.from_residual-in_err-source_root.result c.in_err-source_root.field-0.0 (λ (f : Fault). (f.error ≢ OutOfMemory) → IsWithin (view c.args.value) f) c.from_residual-in_err-source_root.ensures.1
    (λ n. at-member SourceRoot (λ x. refl) (view c.args.value) c.in_err-source_root.field-0.0 (c.in_err-source_root.ensures.fault n))

pub returns-in_err-debug_id-clause-place : goal.returns-in_err-debug_id-clause-place
returns-in_err-debug_id-clause-place c =
    carried_error c.from_residual-in_err-debug_id.result c.in_err-debug_id.field-0.0 (λ (f : Fault). (f.error ≢ OutOfMemory) → IsWithin (view c.args.value) f) c.from_residual-in_err-debug_id.ensures.1
    (λ n. at-member DebugId (λ x. refl) (view c.args.value) c.in_err-debug_id.field-0.0 (c.in_err-debug_id.ensures.fault n))

pub returns-in_err-ignore_list-clause-place : goal.returns-in_err-ignore_list-clause-place
returns-in_err-ignore_list-clause-place c =
    let object = ap view c.in-Object.is ∙ view-Object c.in-Object.object in
    let list = ap (get (codes "ignoreList")) object ∙ sym c.members_of-members.ensures.ignore_list ∙ sym c.member_ref-2.ensures in
    let older = ap (get (codes "x_google_ignoreList")) object ∙ sym c.members_of-members.ensures.older_ignore_list ∙ sym c.member_ref-3.ensures in
    carried_error c.from_residual-in_err-ignore_list.result c.in_err-ignore_list.field-0.0 (λ (f : Fault). (f.error ≢ OutOfMemory) → IsWithin (view c.args.value) f) c.from_residual-in_err-ignore_list.ensures.1
    (λ n. at-ids (view c.args.value) (lent_member c.member_ref-2.result) (lent_member c.member_ref-3.result) c.in_err-ignore_list.field-0.0 list older (c.in_err-ignore_list.ensures.fault n))
