use Rattle.std.proofs.Common.{Err, inl, inr, ap, sym, subst, ◌∙◌}
use Rattle.oxc_sourcemap_join.specs.Joined.{added, IsWithinLimits}
use Rattle.oxc_sourcemap_tokens.proofs.Carried.{carried_error}
use Rattle.oxc_sourcemap_c.specs.CallErrors.{of_map}
use Rattle.oxc_sourcemap_c.proofs.making.joins.add_copy.Goals as goal

pub returns-in_err-add_sourcemap_copied_at-clause-error :
    goal.returns-in_err-add_sourcemap_copied_at-clause-error
returns-in_err-add_sourcemap_copied_at-clause-error c =
    let same = c.as_source_map.ensures in
    carried_error c.from_residual.result (of_map c.in_err-add_sourcemap_copied_at.field-0.0) _ c.from_residual.ensures.1
    (λ n. elim c.in_err-add_sourcemap_copied_at.ensures.error [
      | inl m ↦ absurd (n (ap of_map m))
      | inr t ↦ ((λ w. c.in_err-add_sourcemap_copied_at.ensures.too_large.0 (ap (λ x. Err x) t) (subst (λ m. IsWithinLimits (added c.args.join.now m c.args.position)) (sym same) w)), ap of_map t)
    ])

pub returns-clause-added : goal.returns-clause-added
returns-clause-added c =
    let same = c.as_source_map.ensures in
    let joined = c.in_ok-add_sourcemap_copied_at.ensures.joined in
    (joined ∙ ap (λ m. added c.args.join.now m c.args.position) same, subst IsWithinLimits (sym joined) c.in_ok-add_sourcemap_copied_at.ensures.limits)
