use Rattle.std.proofs.Common.{◌++◌, string_bytes, ap, ◌∙◌, lit<}
use Rattle.oxc_sourcemap_mappings.specs.Canonical.{canonical}
use Rattle.oxc_sourcemap_parts.specs.Views.{record_of_parts}
use Rattle.oxc_sourcemap_json.proofs.JsonTexts.{mappings_added}
use Rattle.oxc_sourcemap_json.proofs.write.json_text.push_mappings.Goals as goal

pub returns-clause-text : goal.returns-clause-text
returns-clause-text c =
    mappings_added (record_of_parts c.args.parts.now).tokens _ _ _ _
    c.in_ok-push_str.ensures.bytes
    (c.in_ok-encode_mappings.ensures.text ∙ ap (λ ts. string_bytes c.push_str.new.self ++ canonical ts) c.as_slice.ensures.value)
    (c.in_ok-push.ensures.bytes ∙ ap (λ bs. string_bytes c.encode_mappings.new.out ++ bs) (c.in_ok-push.ensures.ascii (lit< tt)))
