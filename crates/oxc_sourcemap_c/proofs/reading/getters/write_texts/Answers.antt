use Rattle.std.proofs.Common.{arith}
use Rattle.std.proofs.lemmas.List.{length-map}
use Rattle.std.specs.Cow.{cow_str_bytes}
use Rattle.oxc_sourcemap_parts.specs.Views.{cow_texts}
use Rattle.oxc_sourcemap_c.specs.Structs.{LendsText}
use Rattle.oxc_sourcemap_c.proofs.Filling.{are_filled}
use Rattle.oxc_sourcemap_c.proofs.reading.getters.write_texts.Goals as goal

pub returns : goal.returns
returns c =
    are_filled LendsText (cow_texts c.args.texts.now) c.args.out.now c.loop-i.out c.loop-i.i (omega (arith, length-map c.args.texts.now cow_str_bytes, c.min-i-end.ensures, c.loop-i.auto.i-end, c.loop-i-test.false)) (omega arith)
    (λ k a b lt. c.loop-i.invariant.written k a b lt) c.loop-i.invariant.left
