use Rattle.std.proofs.Common.{◌≡◌, ◌∙◌, ◌++◌, ◌∷◌, ◌<◌, [], sym, ap, arith, length, get_or, map}
use Rattle.std.proofs.Common.{take, slice_get, Some, Bool, true, false, ℕ, Option}
use Rattle.std.proofs.lemmas.List.{map-append, take_all}
use Rattle.std.specs.List.{zip}
use Rattle.oxc_sourcemap_steps.proofs.Indices.{take-one}
use Rattle.oxc_sourcemap_steps.specs.SimplifySteps.{first_marked, source_by}
use Rattle.oxc_sourcemap_steps.specs.declared.simplify.sources.Source.{Source}
use Rattle.oxc_sourcemap_steps.proofs.FirstOnes.{zip-at, count-zip, all-at}
use Rattle.oxc_sourcemap_steps.proofs.NextNumbers.{get-of, get-same}
use Rattle.oxc_sourcemap_steps.proofs.simplify.sources.listed_sources.Goals as goal

source-as : (a b : Option ℕ) (x y : Option ℕ) (f : Bool) → a ≡ x → b ≡ y → ◌≡◌ {A = Source} (record { plain = a; ignored = b; is_ignored = f }) (record { plain = x; ignored = y; is_ignored = f })
source-as a b x y f e g = rw (e, g)

pub loop-i-preserved : goal.loop-i-preserved
loop-i-preserved c =
    let firsts = c.args.firsts.now in
    let flags = c.args.flags.now in
    let i = c.loop-i.i in
    let k = get_or firsts i 0 in
    let f = get_or flags i false in
    let ps = zip firsts flags in
    let here : i < length firsts = c.loop-i-test.true in
    let there : i < length flags = omega (arith, here, c.requires.flags) in
    let at : slice_get ps i ≡ Some (k, f) = zip-at firsts flags i k f here there (get-same firsts i 0 k here) (get-same flags i false f there) in
    let within : k < length firsts = all-at (λ k. k < length firsts) firsts i 0 here c.requires.within in
    let plain = c.in_ok-plain.ensures in
    let ignored = c.in_ok-ignored.ensures in
    let one : c.index.result.now ≡ first_marked ps k false = c.index.ensures ∙ get-of c.in_ok-plain.plain.items k c.index.result.now (first_marked ps k false) (plain.places k (omega (arith, within, plain.len))) in
    let two : c.index-in-loop-i.result.now ≡ first_marked ps k true = c.index-in-loop-i.ensures ∙ get-of c.in_ok-ignored.ignored.items k c.index-in-loop-i.result.now (first_marked ps k true) (ignored.places k (omega (arith, within, ignored.len))) in
    let same = source-as c.index.result.now c.index-in-loop-i.result.now _ _ f one two in
    c.in_ok-push.ensures.items ∙ ap (λ ss. ss ++ record { plain = c.index.result.now; ignored = c.index-in-loop-i.result.now; is_ignored = get_or flags i false } ∷ []) c.loop-i.invariant
    ∙ ap (λ s. map (source_by ps) (take i ps) ++ s ∷ []) same
    ∙ sym (map-append (source_by ps) (take i ps) ((k, f) ∷ [])) ∙ ap (map (source_by ps)) (sym (take-one ps i (k, f) at))

pub returns : goal.returns
returns c =
    let firsts = c.args.firsts.now in
    let flags = c.args.flags.now in
    let ps = zip firsts flags in
    let count = count-zip firsts flags c.requires.flags in
    c.loop-i.invariant ∙ ap (map (source_by ps)) (take_all c.loop-i.i ps (omega (arith, count, c.loop-i-test.false)))
