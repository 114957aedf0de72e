use Rattle.std.proofs.Common.{◌≡◌, map, string_bytes, subst, sym, ap, ◌∙◌, inr, IsUtf8, Ok, Err}
use Rattle.std.proofs.lemmas.Result.{IfOk-weaker, IfErr-weaker}
use Rattle.std.proofs.lemmas.Str.{IsUtf8-string_bytes}
use Rattle.smap_run.specs.Request.{request_of}
use Rattle.oxc_sourcemap_plan.specs.PlanInputs.{inputs_of}
use Rattle.oxc_sourcemap_plan.specs.PlanArguments.{parsed_plan}
use Rattle.smap_run.specs.Answer.{IsPlanAnswer, IsPlanError, IsAnswer, IsCommandError, normalised}
use Rattle.smap_run.specs.Answer.{of_map, without_line_feed}
use Rattle.oxc_sourcemap_mappings.specs.SegmentPlaces.{mappings_place}
use Rattle.smap_run.specs.ErrorPlaces.{IsPlaceOfText, IsReadPlace, IsPlanPlaceIn}
use Rattle.smap_run.proofs.Places.{place_of_text}
use Rattle.smap_run.proofs.running.answer.Goals as goal

pub returns-in-Mappings-clause-place : goal.returns-in-Mappings-clause-place
returns-in-Mappings-clause-place c =
    let s : string_bytes c.in-Ok.text ≡ c.args.input.items = ap (λ bytes. bytes.items) c.in-Ok.ensures.ok in
    let utf8 = subst IsUtf8 s (IsUtf8-string_bytes c.in-Ok.text) in
    IfErr-weaker c.rewrite_mappings.result _ _ (λ f h n. place_of_text (request_of c.args.command.now) c.args.input.items f.error f.place utf8
    (subst (λ command. IsPlaceOfText (request_of command) c.args.input.items f.error f.place) (sym c.in-Mappings.is) (subst (λ text. f.place ≡ mappings_place text c.in-Mappings.names c.in-Mappings.sources) (c.without_last_line_feed.ensures ∙ ap without_line_feed (c.as_str.ensures.value ∙ s)) (h n)))) c.rewrite_mappings.ensures.place

pub returns-in-Normalise-clause-text : goal.returns-in-Normalise-clause-text
returns-in-Normalise-clause-text c =
    let s : string_bytes c.in-Ok.text ≡ c.args.input.items = ap (λ bytes. bytes.items) c.in-Ok.ensures.ok in
    IfOk-weaker c.normalise.result _ _ (λ out h. (
      subst IsUtf8 s (IsUtf8-string_bytes c.in-Ok.text),
      subst (λ command. IsAnswer (request_of command) c.args.input.items (string_bytes out)) (sym c.in-Normalise.is)
          (ap of_map (subst (λ text. normalised text ≡ Ok (string_bytes out)) s h)),
    )) c.normalise.ensures.text

pub returns-in-Normalise-clause-error : goal.returns-in-Normalise-clause-error
returns-in-Normalise-clause-error c =
    let s : string_bytes c.in-Ok.text ≡ c.args.input.items = ap (λ bytes. bytes.items) c.in-Ok.ensures.ok in
    IfErr-weaker c.normalise.result _ _ (λ f h n. inr (
      subst IsUtf8 s (IsUtf8-string_bytes c.in-Ok.text),
      subst (λ command. IsCommandError (request_of command) c.args.input.items f.error) (sym c.in-Normalise.is)
          (subst (λ text. of_map (normalised text) ≡ Err f.error) s (h n)),
    )) c.normalise.ensures.error

pub returns-in-Normalise-clause-place : goal.returns-in-Normalise-clause-place
returns-in-Normalise-clause-place c =
    let s : string_bytes c.in-Ok.text ≡ c.args.input.items = ap (λ bytes. bytes.items) c.in-Ok.ensures.ok in
    let utf8 = subst IsUtf8 s (IsUtf8-string_bytes c.in-Ok.text) in
    IfErr-weaker c.normalise.result _ _ (λ f h n. place_of_text (request_of c.args.command.now) c.args.input.items f.error f.place utf8
    (subst (λ command. IsPlaceOfText (request_of command) c.args.input.items f.error f.place) (sym c.in-Normalise.is) (subst (λ text. IsReadPlace text f.place) s (h n)))) c.normalise.ensures.place

pub returns-in-Plan-clause-text : goal.returns-in-Plan-clause-text
returns-in-Plan-clause-text c =
    let s : string_bytes c.in-Ok.text ≡ c.args.input.items = ap (λ bytes. bytes.items) c.in-Ok.ensures.ok in
    IfOk-weaker c.plan_text.result _ _ (λ out h. (
      subst IsUtf8 s (IsUtf8-string_bytes c.in-Ok.text),
      subst (λ command. IsAnswer (request_of command) c.args.input.items (string_bytes out)) (sym c.in-Plan.is)
          (subst (λ text. IsPlanAnswer (parsed_plan (inputs_of text) (map string_bytes c.in-Plan.arguments.now)) (string_bytes out)) s h),
    )) c.plan_text.ensures.text

pub returns-in-Plan-clause-error : goal.returns-in-Plan-clause-error
returns-in-Plan-clause-error c =
    let s : string_bytes c.in-Ok.text ≡ c.args.input.items = ap (λ bytes. bytes.items) c.in-Ok.ensures.ok in
    IfErr-weaker c.plan_text.result _ _ (λ f h n. inr (
      subst IsUtf8 s (IsUtf8-string_bytes c.in-Ok.text),
      subst (λ command. IsCommandError (request_of command) c.args.input.items f.error) (sym c.in-Plan.is)
          (subst (λ text. IsPlanError (parsed_plan (inputs_of text) (map string_bytes c.in-Plan.arguments.now)) f.error) s (h n)),
    )) c.plan_text.ensures.error

pub returns-in-Plan-clause-place : goal.returns-in-Plan-clause-place
returns-in-Plan-clause-place c =
    let s : string_bytes c.in-Ok.text ≡ c.args.input.items = ap (λ bytes. bytes.items) c.in-Ok.ensures.ok in
    let utf8 = subst IsUtf8 s (IsUtf8-string_bytes c.in-Ok.text) in
    IfErr-weaker c.plan_text.result _ _ (λ f h n. place_of_text (request_of c.args.command.now) c.args.input.items f.error f.place utf8
    (subst (λ command. IsPlaceOfText (request_of command) c.args.input.items f.error f.place) (sym c.in-Plan.is) (subst (λ text. IsPlanPlaceIn (inputs_of text) (parsed_plan (inputs_of text) (map string_bytes c.in-Plan.arguments.now)) f.error f.place) s (h n)))) c.plan_text.ensures.place

pub returns-in-Trace-clause-place : goal.returns-in-Trace-clause-place
returns-in-Trace-clause-place c =
    let s : string_bytes c.in-Ok.text ≡ c.args.input.items = ap (λ bytes. bytes.items) c.in-Ok.ensures.ok in
    let utf8 = subst IsUtf8 s (IsUtf8-string_bytes c.in-Ok.text) in
    IfErr-weaker c.trace_text.result _ _ (λ f h n. place_of_text (request_of c.args.command.now) c.args.input.items f.error f.place utf8
    (subst (λ command. IsPlaceOfText (request_of command) c.args.input.items f.error f.place) (sym c.in-Trace.is) (subst (λ text. IsReadPlace text f.place) (c.as_str-in-Trace.ensures.value ∙ s) (h n)))) c.trace_text.ensures.place

pub returns-in-Url-clause-place : goal.returns-in-Url-clause-place
returns-in-Url-clause-place c =
    let s : string_bytes c.in-Ok.text ≡ c.args.input.items = ap (λ bytes. bytes.items) c.in-Ok.ensures.ok in
    let utf8 = subst IsUtf8 s (IsUtf8-string_bytes c.in-Ok.text) in
    IfErr-weaker c.data_url.result _ _ (λ f h n. place_of_text (request_of c.args.command.now) c.args.input.items f.error f.place utf8
    (subst (λ command. IsPlaceOfText (request_of command) c.args.input.items f.error f.place) (sym c.in-Url.is) (subst (λ text. IsReadPlace text f.place) (c.as_str-in-Url.ensures.value ∙ s) (h n)))) c.data_url.ensures.place
