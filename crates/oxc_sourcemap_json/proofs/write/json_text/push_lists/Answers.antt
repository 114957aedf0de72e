use Rattle.oxc_sourcemap_json.specs.JsonParts.{lists_text}
use Rattle.oxc_sourcemap_json.proofs.JsonTexts.{four_added}
use Rattle.oxc_sourcemap_json.proofs.write.json_text.push_lists.Goals as goal

pub returns-clause-text : goal.returns-clause-text
unfolding lists_text
returns-clause-text c =
    four_added _ _ _ _ _ _ _ _ _
    c.in_ok-push_texts_field.ensures.text
    c.in_ok-push_texts_field-2.ensures.text
    c.in_ok-push_optional_contents.ensures.text
    c.in_ok-push_optional_ids.ensures.text
