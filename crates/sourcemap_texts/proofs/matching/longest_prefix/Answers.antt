use Rattle.std.proofs.Common.{◌<◌, ◌≤◌, refl, string_bytes, subst}
use Rattle.std.proofs.lemmas.Option.{slice_get_read}
use Rattle.sourcemap_texts.specs.declared.matching.Prefix.{Prefix}
use Rattle.sourcemap_texts.specs.Matching.{below_length}
use Rattle.sourcemap_texts.proofs.Longest.{none_more, more, of_all}
use Rattle.sourcemap_texts.proofs.matching.longest_prefix.Goals as goal
use Rattle.sourcemap_texts.proofs.matching.longest_prefix.Goals.{then-length-most, else-length-most}

pub loop-i-preserved : goal.loop-i-preserved
loop-i-preserved c =
    let f = λ (p : Prefix). below_length c.args.path.now (string_bytes p.left) in
    let at = slice_get_read c.args.prefixes.now _ c.loop-i.i c.index-prefixes-i.result refl c.loop-i-test.true c.index-prefixes-i.is in
    elim c.if-length-most.branch [
      | then-length-most w ↦
          rw (w.longest-is, w.most-is, c.below_length-length.ensures)
          (more f c.args.prefixes.now c.loop-i.i c.loop-i.most c.loop-i.longest c.index-prefixes-i.result at
          (subst (λ n. c.loop-i.most < n) c.below_length-length.ensures w.if-length-most.true) c.loop-i.invariant)
      | else-length-most w ↦
          rw (w.longest-is, w.most-is)
          (none_more f c.args.prefixes.now c.loop-i.i c.loop-i.most c.loop-i.longest c.index-prefixes-i.result at
          (subst (λ n. n ≤ c.loop-i.most) c.below_length-length.ensures w.if-length-most.false) c.loop-i.invariant)
    ]

pub returns : goal.returns
returns c = of_all c.args.path.now c.args.prefixes.now c.loop-i.i c.loop-i.most c.loop-i.longest c.loop-i-test.false c.loop-i.invariant
