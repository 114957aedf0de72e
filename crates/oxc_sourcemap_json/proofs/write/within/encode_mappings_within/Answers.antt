use Rattle.std.proofs.Common.{arith}
use Rattle.std.proofs.lemmas.Grind.{common_steps}
use Rattle.oxc_sourcemap_tokens.specs.Chunks.{lent_chunks}
use Rattle.oxc_sourcemap_json.proofs.ManyLines.{told_mappings}
use Rattle.oxc_sourcemap_json.proofs.write.within.encode_mappings_within.Goals as goal

pub returns-in_err-check_early-clause-text : goal.returns-in_err-check_early-clause-text
returns-in_err-check_early-clause-text c =
    let told = told_mappings _ c.args.limit c.args.tokens.now (lent_chunks c.args.chunks) c.in_err-check_early.field-0.0 c.in_err-check_early.ensures in
    grind (arith, common_steps, told)
