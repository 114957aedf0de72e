use Rattle.oxc_sourcemap_json.specs.JsonParts.{head_text}
use Rattle.oxc_sourcemap_json.proofs.JsonTexts.{three_added}
use Rattle.oxc_sourcemap_json.proofs.write.json_text.push_head.Goals as goal

pub returns-clause-text : goal.returns-clause-text
unfolding head_text
returns-clause-text c =
    three_added _ _ _ _ _ _ _
    c.in_ok-push_str.ensures.bytes
    c.in_ok-push_optional_text.ensures.text
    c.in_ok-push_optional_text-2.ensures.text
