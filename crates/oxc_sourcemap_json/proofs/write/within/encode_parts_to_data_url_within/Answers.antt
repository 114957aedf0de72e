use Rattle.std.proofs.Common.{arith}
use Rattle.std.proofs.lemmas.Grind.{common_steps}
use Rattle.oxc_sourcemap_parts.specs.Views.{record_of_parts}
use Rattle.oxc_sourcemap_tokens.specs.Chunks.{lent_chunks}
use Rattle.oxc_sourcemap_json.proofs.ManyLines.{told_url}
use Rattle.oxc_sourcemap_json.proofs.write.within.encode_parts_to_data_url_within.Goals as goal

pub returns-in_err-check_early-clause-text : goal.returns-in_err-check_early-clause-text
returns-in_err-check_early-clause-text c =
    let told = told_url _ c.args.limit (record_of_parts c.args.parts.now) c.as_slice.result.now (lent_chunks c.chunks_of.result) c.in_err-check_early.field-0.0 c.as_slice.ensures.value c.chunks_of.ensures c.in_err-check_early.ensures in
    grind (arith, common_steps, told)
