use Rattle.std.proofs.Common.{arith}
use Rattle.std.proofs.lemmas.Map.Text.{text_keys}
use Rattle.std.specs.Cow.{cow_str_bytes}
use Rattle.oxc_sourcemap_steps.proofs.KeptNames.{index_step}
use Rattle.oxc_sourcemap_steps.proofs.compose.inherited_names.fill_indices.Goals as goal

pub loop-i-preserved : goal.loop-i-preserved
loop-i-preserved c = λ text.
    let index = index_step cow_str_bytes text c.args.names.now c.loop-i.i c.index-names-i.result c.loop-i-test.true c.index-names-i.is in
    grind (arith, text_keys, index, c.as_str.ensures.value, c.loop-i.invariant text, c.loop-i.invariant c.as_str.result.now)
