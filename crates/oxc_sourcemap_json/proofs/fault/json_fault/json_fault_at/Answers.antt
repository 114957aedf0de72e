use Rattle.std.proofs.Common.{ap, sym, ◌∙◌, true≢false}
use Rattle.std.proofs.lemmas.Result.{IfOk-weaker}
use Rattle.std.specs.Result.{is_err}
use Rattle.oxc_sourcemap_json.proofs.NotJson.{nothing-read}
use Rattle.oxc_sourcemap_json.proofs.fault.json_fault.json_fault_at.Goals as goal

pub returns-in-Ok-clause-reading : goal.returns-in-Ok-clause-reading
returns-in-Ok-clause-reading c = λ none. absurd (true≢false (sym (nothing-read c.args.text.now none) ∙ ap is_err c.in-Ok.ensures.map.0))

pub returns-clause-reading : goal.returns-clause-reading
returns-clause-reading c = λ none.
    IfOk-weaker c.place_of.result _ _ (λ place h. rw h.1 ((c.in-Err.ensures.place.1 h.0).1 none)) c.place_of.ensures.place
