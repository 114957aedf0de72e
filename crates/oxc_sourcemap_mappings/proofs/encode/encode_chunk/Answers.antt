use Rattle.std.proofs.Common.{rules, string_bytes, ◌∙◌}
use Rattle.oxc_sourcemap_mappings.proofs.Writing.{extends-none, cut-back, cut-place}
use Rattle.oxc_sourcemap_mappings.proofs.encode.encode_chunk.Goals as goal

pub truncate-requires : goal.truncate-requires
truncate-requires c = λ h. cut-place (string_bytes c.args.out.now) _ _ (c.push_chunk.ensures.adds (string_bytes c.args.out.now) (extends-none _)) (c.len-kept.ensures ∙ search rules)

pub returns-in_default-clause-unchanged : goal.returns-in_default-clause-unchanged
returns-in_default-clause-unchanged c = c.truncate.ensures.bytes ∙ cut-back (string_bytes c.args.out.now) _ _ (c.push_chunk.ensures.adds (string_bytes c.args.out.now) (extends-none _)) (c.len-kept.ensures ∙ search rules)

pub returns-in_default-clause-adds : goal.returns-in_default-clause-adds
returns-in_default-clause-adds c = λ base extends. rw (returns-in_default-clause-unchanged c) extends
