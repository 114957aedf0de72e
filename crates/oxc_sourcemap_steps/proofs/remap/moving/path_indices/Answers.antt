use Rattle.std.proofs.Common.{arith}
use Rattle.std.proofs.lemmas.Map.Text.{text_keys}
use Rattle.oxc_sourcemap_steps.proofs.KeptNames.{index_step}
use Rattle.oxc_sourcemap_steps.proofs.remap.moving.path_indices.Goals as goal

pub loop-i-preserved : goal.loop-i-preserved
loop-i-preserved c = λ text.
    let index = index_step (λ input. input.0.now) text c.args.inputs.now c.loop-i.i c.index-inputs-i.result c.loop-i-test.true c.index-inputs-i.is in
    grind (arith, text_keys, index, c.loop-i.invariant text, c.loop-i.invariant c.index-inputs-i.result.0.now)
