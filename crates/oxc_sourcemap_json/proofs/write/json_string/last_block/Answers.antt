use Rattle.std.proofs.Common.{◌++◌, length, drop, replicate, ap, ◌∙◌, arith}
use Rattle.oxc_sourcemap_json.proofs.UnescapedBlocks.{padded}
use Rattle.oxc_sourcemap_json.proofs.write.json_string.last_block.Goals as goal

pub returns : goal.returns
returns c =
    ap (λ bs. bs ++ drop (length c.args.text.now) (replicate 16 32)) c.copy_from_slice.ensures.after
    ∙ padded c.args.text.now 16 16 (omega arith) (omega (arith, c.requires))
