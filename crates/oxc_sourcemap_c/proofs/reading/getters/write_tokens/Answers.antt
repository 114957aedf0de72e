use Rattle.std.proofs.Common.{◌∙◌, map, arith}
use Rattle.std.proofs.lemmas.List.{length-map}
use Rattle.oxc_sourcemap_c.specs.Structs.{numbers_of}
use Rattle.oxc_sourcemap_c.proofs.Filling.{filled-by, take_mapped}
use Rattle.oxc_sourcemap_c.proofs.reading.getters.write_tokens.Goals as goal

pub returns : goal.returns
returns c =
    filled-by (map numbers_of c.args.tokens.now) c.args.out.now c.loop-i.out c.loop-i.i (omega (arith, length-map c.args.tokens.now numbers_of, c.min-i-end.ensures, c.loop-i.auto.i-end, c.loop-i-test.false)) (omega arith)
    (c.loop-i.invariant.written ∙ take_mapped numbers_of c.args.tokens.now c.loop-i.i) c.loop-i.invariant.left
