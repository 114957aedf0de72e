use Rattle.sourcemap_run.proofs.Appends.{three_appends, begins_still}
use Rattle.sourcemap_tracing.proofs.reversing.push_reversed_object.Goals as goal

pub returns-in_err-found-clause-adds : goal.returns-in_err-found-clause-adds
returns-in_err-found-clause-adds c = λ front begins.
    let opened = c.in_ok-push_opened.ensures.adds front begins in
    let named = c.in_ok-push_text_member.ensures.adds front opened in
    c.in_err-found.ensures.adds front (begins_still _ _ front _ c.in_ok-push_str.ensures.bytes named)

pub returns-clause-text : goal.returns-clause-text
returns-clause-text c =
    three_appends _ _ _ _ _ _ _ c.in_ok-push_opened.ensures.text c.in_ok-push_text_member.ensures.text
    (three_appends _ _ _ _ _ _ _ c.in_ok-push_str.ensures.bytes c.in_ok-found.ensures.text c.in_ok-push_str-2.ensures.bytes)
