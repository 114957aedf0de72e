-- No error of a command for an input is a failed read or write.
use Rattle.std.proofs.Common.{◌≡◌, ◌≢◌, ℕ, true, false, List, refl, sym, ap, ◌∙◌, subst, Option}
use Rattle.std.proofs.Common.{Some, None, Result, Ok, Err, inl, inr}
use Rattle.std.specs.Result.{IsErrOf, IsErrAnd}
use Rattle.oxc_sourcemap_tokens.specs.declared.errors.error.Error.{Error}
use Rattle.oxc_sourcemap_tokens.specs.declared.errors.plan_error.PlanError.{PlanError}
use Rattle.oxc_sourcemap_tokens.specs.Token.{TokenRecord}
use Rattle.oxc_sourcemap_mappings.specs.ChunkTexts.{writing_fault}
use Rattle.oxc_sourcemap_mappings.specs.Reading.{reading}
use Rattle.oxc_sourcemap_plan.specs.Outcome.{Outcome}
use Rattle.oxc_sourcemap_plan.specs.declared.run_error.RunError.{RunError}
use Rattle.oxc_sourcemap_plan.specs.declared.run_error.RunError.TheVariants.{Plan, Read, Write}
use Rattle.oxc_sourcemap_plan.specs.declared.run_error.RunError.TheVariants.{Utf8, Arguments}
use Rattle.oxc_sourcemap_plan.specs.declared.run_error.RunError.TheVariants.{NoText}
use Rattle.oxc_sourcemap_plan.specs.RunErrors.{out_of_memory}
use Rattle.oxc_sourcemap_plan.specs.PlanInputs.{inputs_of}
use Rattle.oxc_sourcemap_plan.specs.PlanArguments.{parsed_plan}
use Rattle.oxc_sourcemap_plan.proofs.PortErrors.{is_of_port, IsNotOfPort, plan_not_of_port}
use Rattle.smap_run.specs.Traced.{traced}
use Rattle.smap_run.specs.Request.{Request, Mappings, Normalise, Plan as PlanOf, Trace, Url}
use Rattle.smap_run.specs.Answer.{without_line_feed, written, mappings_answer, normalised}
use Rattle.smap_run.specs.Answer.{normalised_url, of_map, of_plan, IsPlanError, IsCommandError}
use Rattle.smap_run.specs.Answer.{FailsWith}

error_of : {A : Type 0} (r : Result A RunError) (e : RunError) → IsNotOfPort r → r ≡ Err e → is_of_port e ≡ false
error_of r e h p = subst IsNotOfPort p h

writing : (o : Option Error) (tokens : List TokenRecord) → IsNotOfPort (written o tokens)
writing None tokens = tt
writing (Some fault) tokens = refl

mappings : (r : Result (List TokenRecord) Error) → IsNotOfPort (mappings_answer r)
mappings (Ok tokens) = writing (writing_fault tokens None) tokens
mappings (Err fault) = refl

map : (r : Result (List ℕ) Error) → IsNotOfPort (of_map r)
map (Ok text) = tt
map (Err fault) = refl

step : (r : Result (List ℕ) PlanError) → IsNotOfPort (of_plan r)
step (Ok text) = tt
step (Err error) = refl

plan : (r : Result Outcome RunError) (e : RunError) → IsNotOfPort r → IsPlanError r e → is_of_port e ≡ false
plan (Err fault) e h p = ap is_of_port p ∙ h
plan (Ok o) e h p = ap is_of_port p.1

command : (request : Request) (text : List ℕ) (e : RunError) → IsCommandError request text e → is_of_port e ≡ false
command (Mappings names sources) text e h =
    let r = reading (without_line_feed text) names sources in error_of (mappings_answer r) e (mappings r) h
command Normalise text e h = error_of (of_map (normalised text)) e (map (normalised text)) h
command Url text e h = error_of (of_map (normalised_url text)) e (map (normalised_url text)) h
command (Trace line col) text e h = error_of (of_plan (traced text line col)) e (step (traced text line col)) h
command (PlanOf arguments) text e h = plan (parsed_plan (inputs_of text) arguments) e (plan_not_of_port (inputs_of text) arguments) h

failure : (request : Request) (input : List ℕ) (e : RunError) → FailsWith request input e → is_of_port e ≡ false
failure request input e (inl utf8) = ap is_of_port utf8.1
failure request input e (inr error) = command request input e error.1

-- nor is want of memory
pub not_of_port : (request : Request) (input : List ℕ) (e : RunError) → (e ≢ out_of_memory → FailsWith request input e) → is_of_port e ≡ false
not_of_port request input (Plan error) h = refl
not_of_port request input Read h = failure request input Read (h (λ q. cc))
not_of_port request input Write h = failure request input Write (h (λ q. cc))
not_of_port request input Utf8 h = refl
not_of_port request input Arguments h = refl
not_of_port request input (NoText k) h = refl

-- an error that `?` hands on and that is no failed read or write is not a given one
pub not_this_error : {A : Type 0} (r : Result A RunError) (e port : RunError) → IsErrAnd r (λ x. x ≡ e) → is_of_port e ≡ false → is_of_port port ≡ true → IsErrOf r port → ⊥
not_this_error (Ok x) e port h p q k = cc (k)
not_this_error (Err x) e port h p q k =
    let same : x ≡ port = cc (k) in
    let both : true ≡ false = sym q ∙ ap is_of_port (sym same ∙ h) ∙ p in
    cc (both)
