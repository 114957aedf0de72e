use Rattle.std.proofs.Common.{rules, ◌∙◌}
use Rattle.oxc_sourcemap_json.proofs.Appends.{cut-back, cut-place}
use Rattle.oxc_sourcemap_json.proofs.write.json_string.push_json_string.Goals as goal

pub truncate-requires : goal.truncate-requires
truncate-requires c = λ _. cut-place c.args.out.now c.push_quoted.new.out _ c.push_quoted.ensures.adds (c.len-before.ensures ∙ search rules)

pub returns-in-Err-clause-unchanged : goal.returns-in-Err-clause-unchanged
returns-in-Err-clause-unchanged c = c.truncate.ensures.bytes ∙ cut-back c.args.out.now c.push_quoted.new.out _ c.push_quoted.ensures.adds (c.len-before.ensures ∙ search rules)
