use Rattle.std.proofs.Common.{◌≡◌, ◌<◌, ◌++◌, codes, sym, ap, ◌∙◌, subst}
use Rattle.std.proofs.lemmas.Str.Pattern.{split_text_parts}
use Rattle.oxc_sourcemap_plan.proofs.PlanInputs.{not_dashes, only_text, text_and_more}
use Rattle.oxc_sourcemap_plan.proofs.PlanInputs.{text_and_none, none_before, none_before_last}
use Rattle.oxc_sourcemap_plan.proofs.plan_arguments.first_text.Goals as goal

pub returns-in-Some-split_once-clause-text : goal.returns-in-Some-split_once-clause-text
returns-in-Some-split_once-clause-text c =
    let input = c.args.input.now in
    let text = c.in-Some-split_once.text.now in
    let rest = c.in-Some-split_once.rest.now in
    let parts = rw c.in-Some-split_once.is at (split_text_parts (codes "\n---\n") input c.split_once.result c.split_once.ensures.cases) in
    let match = c.in-Some-split_once.ensures.cases in
    text_and_more input text rest parts (none_before input text c.in_default.ensures.cases rest parts (λ i l. match.2.0 i (subst (λ n. i < n) match.6 l)))

pub returns-in-Some-strip_suffix-clause-text : goal.returns-in-Some-strip_suffix-clause-text
returns-in-Some-strip_suffix-clause-text c =
    let input = c.args.input.now in
    let text = c.in-Some-strip_suffix.text.now in
    let parts = rw c.in_default-split_once.is at (split_text_parts (codes "\n---\n") input c.split_once.result c.split_once.ensures.cases) in
    let match = c.in-Some-strip_suffix.ensures.cases in
    let ends : input ≡ text ++ codes "\n---" = match.1.1 ∙ ap (λ t. t ++ codes "\n---") (sym match.2) in
    text_and_none input text ends (none_before_last input text c.in_default.ensures.cases ends parts)

pub returns-in-None-clause-text : goal.returns-in-None-clause-text
returns-in-None-clause-text c =
    let input = c.args.input.now in
    let parts = rw c.in_default-split_once.is at (split_text_parts (codes "\n---\n") input c.split_once.result c.split_once.ensures.cases) in
    only_text input (not_dashes input (sym c.eq.ensures ∙ c.if-eq.false), c.in_default.ensures.cases, c.in-None.ensures.cases, parts)
