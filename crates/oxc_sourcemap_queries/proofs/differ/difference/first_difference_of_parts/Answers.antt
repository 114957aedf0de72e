use Rattle.std.proofs.Common.{◌≡◌, ◌<◌, ◌≤◌, ◌+◌, true, false, length, Some, None, IsNone, refl}
use Rattle.std.proofs.Common.{sym, subst, ◌∙◌, arith}
use Rattle.oxc_sourcemap_tokens.specs.Token.{AreInBounds}
use Rattle.oxc_sourcemap_parts.specs.Views.{record_of_parts}
use Rattle.oxc_sourcemap_queries.specs.Cuts.{passed_count}
use Rattle.oxc_sourcemap_queries.proofs.Cutting.{after-within}
use Rattle.oxc_sourcemap_queries.specs.Differences.{IsFirstDifference}
use Rattle.oxc_sourcemap_queries.specs.Walk.{change_after, earlier}
use Rattle.oxc_sourcemap_queries.proofs.Walked.{IsWalked, walked-on, walked-off, differ-there}
use Rattle.oxc_sourcemap_queries.proofs.Walked.{differ-first, compared-by, found-as, step-passed}
use Rattle.oxc_sourcemap_queries.proofs.Walked.{step-changes, change-later, later-of, change-fits}
use Rattle.oxc_sourcemap_queries.proofs.Walked.{fits-of}
use Rattle.oxc_sourcemap_queries.proofs.differ.difference.first_difference_of_parts.Goals as goal

pub returns-then-not-is_found_alike-clause-same : goal.returns-then-not-is_found_alike-clause-same
returns-then-not-is_found_alike-clause-same c = λ sorted_a sorted_b.
    let a = record_of_parts c.args.a.now in
    let b = record_of_parts c.args.b.now in
    let s = c.loop-first in
    let h = s.invariant in
    let bounds_a = subst AreInBounds h.is_first c.tokens_in_bounds.ensures in
    let bounds_b = subst AreInBounds h.is_second c.tokens_in_bounds-2.ensures in
    let found_a = found-as a c.as_slice-first.result.now s.passed_first s.place c.holder.result c.token_at-found_first.result h.is_first c.holder.ensures c.token_at-found_first.ensures in
    let found_b = found-as b c.as_slice-second.result.now s.passed_second s.place c.holder-in-loop-first.result c.token_at-found_second.result h.is_second c.holder-in-loop-first.ensures c.token_at-found_second.ensures in
    let walked = h.walked sorted_a sorted_b in
    let compared = compared-by a b sorted_a sorted_b bounds_a bounds_b s.place s.passed_first s.passed_second walked c.token_at-found_first.result c.token_at-found_second.result found_a found_b in (
      (λ e. absurd (let f : true ≡ false = e in cc (f))),
      (λ same. absurd (differ-there a b sorted_a sorted_b bounds_a bounds_b s.place s.passed_first s.passed_second walked
          (λ here. let f : false ≡ true = sym c.if-not-is_found_alike.true ∙ c.is_found_alike.ensures.same.1 (compared.1 here) in cc (f)) same)),
    )

pub returns-then-not-is_found_alike-clause-first : goal.returns-then-not-is_found_alike-clause-first
returns-then-not-is_found_alike-clause-first c = λ sorted_a sorted_b.
    let a = record_of_parts c.args.a.now in
    let b = record_of_parts c.args.b.now in
    let s = c.loop-first in
    let h = s.invariant in
    let bounds_a = subst AreInBounds h.is_first c.tokens_in_bounds.ensures in
    let bounds_b = subst AreInBounds h.is_second c.tokens_in_bounds-2.ensures in
    let found_a = found-as a c.as_slice-first.result.now s.passed_first s.place c.holder.result c.token_at-found_first.result h.is_first c.holder.ensures c.token_at-found_first.ensures in
    let found_b = found-as b c.as_slice-second.result.now s.passed_second s.place c.holder-in-loop-first.result c.token_at-found_second.result h.is_second c.holder-in-loop-first.ensures c.token_at-found_second.ensures in
    let walked = h.walked sorted_a sorted_b in
    let compared = compared-by a b sorted_a sorted_b bounds_a bounds_b s.place s.passed_first s.passed_second walked c.token_at-found_first.result c.token_at-found_second.result found_a found_b in
    subst (IsFirstDifference a b) (sym c.position_from.ensures)
    (differ-first a b sorted_a sorted_b bounds_a bounds_b s.place s.passed_first s.passed_second walked
    (λ here. let f : false ≡ true = sym c.if-not-is_found_alike.true ∙ c.is_found_alike.ensures.same.1 (compared.1 here) in cc (f)))

pub returns-in_err-place-clause-same : goal.returns-in_err-place-clause-same
returns-in_err-place-clause-same c = λ sorted_a sorted_b.
    let a = record_of_parts c.args.a.now in
    let b = record_of_parts c.args.b.now in
    let s = c.loop-first in
    let h = s.invariant in
    let bounds_a = subst AreInBounds h.is_first c.tokens_in_bounds.ensures in
    let bounds_b = subst AreInBounds h.is_second c.tokens_in_bounds-2.ensures in
    let found_a = found-as a c.as_slice-first.result.now s.passed_first s.place c.holder.result c.token_at-found_first.result h.is_first c.holder.ensures c.token_at-found_first.ensures in
    let found_b = found-as b c.as_slice-second.result.now s.passed_second s.place c.holder-in-loop-first.result c.token_at-found_second.result h.is_second c.holder-in-loop-first.ensures c.token_at-found_second.ensures in
    let walked = h.walked sorted_a sorted_b in
    let compared = compared-by a b sorted_a sorted_b bounds_a bounds_b s.place s.passed_first s.passed_second walked c.token_at-found_first.result c.token_at-found_second.result found_a found_b in
    let here = compared.0 (c.is_found_alike.ensures.same.0 c.if-not-is_found_alike.false) in
    let steps = step-changes c.as_slice-first.result.now c.as_slice-second.result.now a.tokens b.tokens s.passed_first s.passed_second s.place c.step_at-step_first.result c.step_at-step_second.result
    h.is_first h.is_second c.step_at-step_first.ensures c.step_at-step_second.ensures in
    let none : earlier (change_after a.tokens s.passed_first s.place) (change_after b.tokens s.passed_second s.place) ≡ None = cc (steps, c.earlier.ensures, c.in_err-place.was) in (
      (λ _. walked-off a b sorted_a sorted_b bounds_a bounds_b s.place s.passed_first s.passed_second walked here none),
      (λ _. subst (λ o. IsNone o) (sym c.from_residual.ensures) refl),
    )

pub loop-first-smaller : goal.loop-first-smaller
loop-first-smaller c =
    let s = c.loop-first in
    let h = s.invariant in
    let first = c.as_slice-first.result.now in
    let second = c.as_slice-second.result.now in
    let steps = step-changes first second first second s.passed_first s.passed_second s.place c.step_at-step_first.result c.step_at-step_second.result refl refl c.step_at-step_first.ensures c.step_at-step_second.ensures in
    let next : earlier (change_after first s.passed_first s.place) (change_after second s.passed_second s.place) ≡ Some c.in_ok-place.place = cc (steps, c.earlier.ensures, c.in_ok-place.was) in
    let later : s.place < c.in_ok-place.place = later-of s.place c.in_ok-place.place _ _ (change-later first s.passed_first s.place h.within_first) (change-later second s.passed_second s.place h.within_second) next in
    omega (arith, later, h.fits)

pub loop-first-preserved : goal.loop-first-preserved
loop-first-preserved c =
    let a = record_of_parts c.args.a.now in
    let b = record_of_parts c.args.b.now in
    let s = c.loop-first in
    let h = s.invariant in
    let first = c.as_slice-first.result.now in
    let second = c.as_slice-second.result.now in
    let step_a = c.step_at-step_first in
    let step_b = c.step_at-step_second in
    let bounds_a = subst AreInBounds h.is_first c.tokens_in_bounds.ensures in
    let bounds_b = subst AreInBounds h.is_second c.tokens_in_bounds-2.ensures in
    let found_a = found-as a first s.passed_first s.place c.holder.result c.token_at-found_first.result h.is_first c.holder.ensures c.token_at-found_first.ensures in
    let found_b = found-as b second s.passed_second s.place c.holder-in-loop-first.result c.token_at-found_second.result h.is_second c.holder-in-loop-first.ensures c.token_at-found_second.ensures in
    let steps = step-changes first second a.tokens b.tokens s.passed_first s.passed_second s.place step_a.result step_b.result h.is_first h.is_second step_a.ensures step_b.ensures in
    let next : earlier (change_after a.tokens s.passed_first s.place) (change_after b.tokens s.passed_second s.place) ≡ Some c.in_ok-place.place = cc (steps, c.earlier.ensures, c.in_ok-place.was) in
    record {
      is_first = h.is_first;
      is_second = h.is_second;
      within_first = subst (λ n. n ≤ length first) (sym (step-passed first first s.passed_first s.place step_a.result refl step_a.ensures)) (after-within first s.passed_first s.place h.within_first);
      within_second = subst (λ n. n ≤ length second) (sym (step-passed second second s.passed_second s.place step_b.result refl step_b.ensures)) (after-within second s.passed_second s.place h.within_second);
      fits = fits-of c.in_ok-place.place _ _ (change-fits a.tokens s.passed_first s.place bounds_a) (change-fits b.tokens s.passed_second s.place bounds_b) next;
      equal = c.is_found_alike.ensures.equal;
      walked = λ sorted_a sorted_b.
          let walked = h.walked sorted_a sorted_b in
          let compared = compared-by a b sorted_a sorted_b bounds_a bounds_b s.place s.passed_first s.passed_second walked c.token_at-found_first.result c.token_at-found_second.result found_a found_b in
          let here = compared.0 (c.is_found_alike.ensures.same.0 c.if-not-is_found_alike.false) in
          let on = walked-on a b sorted_a sorted_b bounds_a bounds_b s.place s.passed_first s.passed_second walked here c.in_ok-place.place next in
          subst (λ n. IsWalked a b c.in_ok-place.place n step_b.result.passed) (sym (step-passed first a.tokens s.passed_first s.place step_a.result h.is_first step_a.ensures))
          (subst (λ n. IsWalked a b c.in_ok-place.place (s.passed_first + passed_count a.tokens s.passed_first s.place) n) (sym (step-passed second b.tokens s.passed_second s.place step_b.result h.is_second step_b.ensures)) on);
    }
