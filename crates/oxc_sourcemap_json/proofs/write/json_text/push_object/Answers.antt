use Rattle.oxc_sourcemap_parts.specs.Views.{record_of_parts}
use Rattle.oxc_sourcemap_json.proofs.JsonTexts.{object_added}
use Rattle.oxc_sourcemap_json.proofs.write.json_text.push_object.Goals as goal

pub returns-clause-text : goal.returns-clause-text
returns-clause-text c =
    let lists = rw (c.as_slice.ensures.value, c.as_slice-2.ensures.value, c.as_slice-3.ensures.value) at c.in_ok-push_lists.ensures.text in
    object_added (record_of_parts c.args.parts.now) _ _ _ _ _
    c.in_ok-push_head.ensures.text
    lists
    c.in_ok-push_tail.ensures.text
