use Rattle.std.proofs.Common.{rules, ◌∙◌}
use Rattle.oxc_sourcemap_json.proofs.Appends.{cut-back, cut-place}
use Rattle.oxc_sourcemap_json.proofs.write.json_text.encode_parts_into.Goals as goal

pub truncate-requires : goal.truncate-requires
truncate-requires c = λ _. cut-place c.reserve.new.self c.push_object.new.out _ c.push_object.ensures.adds (c.len-before.ensures ∙ search rules)

pub returns-in-Err-clause-unchanged : goal.returns-in-Err-clause-unchanged
returns-in-Err-clause-unchanged c = c.truncate.ensures.bytes ∙ cut-back c.reserve.new.self c.push_object.new.out _ c.push_object.ensures.adds (c.len-before.ensures ∙ search rules) ∙ c.reserve.ensures.bytes
