use Rattle.std.proofs.Common.{◌∙◌, ℕ, ap, sym, map, Option, option_map, arith}
use Rattle.std.proofs.lemmas.List.{length-map}
use Rattle.std.proofs.lemmas.Simd.{map-map}
use Rattle.std.specs.Cow.{cow_str_bytes}
use Rattle.std.specs.declared.alloc.Global.{Global}
use Rattle.std.specs.declared.borrow.CowStr.{CowStr}
use Rattle.oxc_sourcemap_c.specs.Listed.{filled}
use Rattle.oxc_sourcemap_c.proofs.Filling.{filled-by, take_mapped}
use Rattle.oxc_sourcemap_c.specs.Answers.{known_flag}
use Rattle.oxc_sourcemap_c.proofs.reading.getters.write_known.Goals as goal

pub returns : goal.returns
returns c =
    let flag : Option (CowStr Global) → ℕ = λ content. known_flag (option_map cow_str_bytes content) in
    filled-by (map flag c.args.contents.now) c.args.out.now c.loop-i.out c.loop-i.i (omega (arith, length-map c.args.contents.now flag, c.min-i-end.ensures, c.loop-i.auto.i-end, c.loop-i-test.false)) (omega arith)
    (c.loop-i.invariant.written ∙ take_mapped flag c.args.contents.now c.loop-i.i) c.loop-i.invariant.left
    ∙ ap (λ flags. filled flags c.args.out.now) (sym (map-map known_flag (option_map cow_str_bytes) c.args.contents.now))
