use Rattle.std.proofs.Common.{refl, sym, subst, ap, ◌∙◌, Ok, inl, inr, IfErr, ◌≢◌, Err, ◌≡◌, false}
use Rattle.std.proofs.lemmas.Result.{IfOk-weaker}
use Rattle.oxc_sourcemap.specs.Words.{HaveSameTraces, EqualUpToRepeats, compiled_of}
use Rattle.oxc_sourcemap.specs.Words.{FitsCompiled, are_tokens_sorted, Unsorted, Map, TooLarge}
use Rattle.callers.proofs.Errors.{not-compiled}
use Rattle.callers.proofs.compile_plan.Goals as goal

pub returns-clause-means : goal.returns-clause-means
returns-clause-means c =
    let is = c.in_ok-map.ensures.map in
    let m = c.in_ok-map.map in
    let stored = c.compiled_means_map.ensures.stored m in
    let same = c.parts_of.ensures ∙ c.as_source_map.ensures in
    let len = c.args.text_length in
    let stamp = c.args.stamp.now in
    IfOk-weaker c.compile.result _ _
    (λ bytes meaning. (
      compiled_of m len stamp,
      is.decoded_map,
      meaning ∙ ap (λ r. Ok (compiled_of r len stamp)) same,
      is.means,
      subst (λ d. HaveSameTraces d is.decoded_map) (sym stored) is.traces,
      subst (λ d. EqualUpToRepeats d is.decoded_map) (sym stored) is.up_to_repeats,
      refl,
      refl,
    ))
    c.compile.ensures.meaning

pub returns-clause-error : goal.returns-clause-error
returns-clause-error c =
    let m = c.in_ok-map.map in
    let same = c.parts_of.ensures ∙ c.as_source_map.ensures in
    let unsorted = subst (λ r. IfErr c.compile.result (λ e. e ≡ Unsorted → are_tokens_sorted r.tokens ≡ false)) same c.compile.ensures.sorted in
    let large = subst (λ r. FitsCompiled r → c.compile.result ≢ Err (Map TooLarge)) same c.compile.ensures.large in
    not-compiled m c.compile.result _ c.in_ok-map.ensures.map.sound.sorted c.compile.ensures.errors unsorted large (λ e is. inl is)
    (λ e is misfit. inr (inl (is, m, c.in_ok-map.ensures.outcome, misfit)))
