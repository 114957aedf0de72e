use Rattle.std.proofs.Common.{◌≡◌, ◌∙◌, ◌+◌, ◌<◌, sym, ap, arith, length, get_or, set, take}
use Rattle.std.proofs.Common.{slice_get, Some, None, cond}
use Rattle.std.proofs.lemmas.List.{length-take-le, take_all}
use Rattle.std.specs.Bool.{beq}
use Rattle.std.specs.List.{zip}
use Rattle.std.specs.Option.{option_or}
use Rattle.oxc_sourcemap_steps.proofs.Indices.{take-one}
use Rattle.oxc_sourcemap_steps.specs.SimplifySteps.{first_marked}
use Rattle.oxc_sourcemap_steps.proofs.FirstOnes.{zip-at, count-zip, all-at}
use Rattle.oxc_sourcemap_steps.proofs.NextNumbers.{marked-more, count-set, get-same}
use Rattle.oxc_sourcemap_steps.proofs.simplify.sources.first_marked.Goals as goal

pub loop-i-preserved : goal.loop-i-preserved
loop-i-preserved c =
    let firsts = c.args.firsts.now in
    let flags = c.args.flags.now in
    let mark = c.args.mark in
    let i = c.loop-i.i in
    let k = get_or firsts i 0 in
    let f = get_or flags i mark in
    let xs = c.loop-i.places.items in
    let here : i < length firsts = c.loop-i-test.true in
    let there : i < length flags = omega (arith, here, c.requires.flags) in
    let count = count-zip firsts flags c.requires.flags in
    let at : slice_get (zip firsts flags) i ≡ Some (k, f) = zip-at firsts flags i k f here there (get-same firsts i 0 k here) (get-same flags i mark f there) in
    let within : k < length firsts = all-at (λ k. k < length firsts) firsts i 0 here c.requires.within in
    let len = c.loop-i.invariant.len in
    let place : get_or xs k None ≡ c.index.result.now = get-same xs k None c.index.result.now (omega (arith, within, len)) ∙ sym c.index.ensures in
    let is : c.or.result ≡ option_or (get_or xs k None) (cond (beq mark f) (Some i) None) =
    c.or.ensures ∙ ap (λ o. option_or c.index.result.now o) c.marked_at.ensures ∙ ap (λ o. option_or o (cond (beq mark f) (Some i) None)) (sym place) in
    let size : i ≡ length (take i (zip firsts flags)) = sym (length-take-le i (zip firsts flags) (omega (arith, here, count))) in record {
      len = count-set xs k c.or.result ∙ len;
      places = λ n l. ap (λ o. slice_get (set xs k o) n) is
          ∙ marked-more (take i (zip firsts flags)) (take (i + 1) (zip firsts flags)) mark f i k (length firsts) xs (take-one (zip firsts flags) i (k, f) at) size within len c.loop-i.invariant.places n l;
    }

pub returns-clause-places : goal.returns-clause-places
returns-clause-places c = λ n l.
    let firsts = c.args.firsts.now in
    let flags = c.args.flags.now in
    let count = count-zip firsts flags c.requires.flags in
    c.loop-i.invariant.places n (omega (arith, l, c.loop-i.invariant.len))
    ∙ ap (λ ps. Some (first_marked ps n c.args.mark)) (take_all c.loop-i.i (zip firsts flags) (omega (arith, count, c.loop-i-test.false)))
