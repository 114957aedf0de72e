use Rattle.std.proofs.Common.{◌++◌, ap, sym, refl, subst, ◌∙◌}
use Rattle.oxc_sourcemap_tokens.specs.Token.{AreInBounds}
use Rattle.oxc_sourcemap_join.proofs.Moving.{all-in-bounds, unmoved}
use Rattle.oxc_sourcemap_join.proofs.shift.push_moved.Goals as goal
use Rattle.oxc_sourcemap_join.proofs.shift.push_moved.Goals.{then-fits_reach-via-then-fits_reach}
use Rattle.oxc_sourcemap_join.proofs.shift.push_moved.Goals.{then-fits_reach-via-else-fits_reach+then-fits_all}

pub returns-then-moves_nothing-clause-fits : goal.returns-then-moves_nothing-clause-fits
returns-then-moves_nothing-clause-fits c =
    let zero = c.moves_nothing.ensures c.if-moves_nothing.true in
    (λ e. subst AreInBounds (sym (unmoved c.args.shift zero.0 zero.1 zero.2 zero.3 c.args.added.now)) c.tokens_in_bounds.ensures, λ h. refl)

pub returns-then-moves_nothing-clause-items : goal.returns-then-moves_nothing-clause-items
returns-then-moves_nothing-clause-items c =
    let zero = c.moves_nothing.ensures c.if-moves_nothing.true in
    λ e. (rw c.unwrap.ensures at c.extend_from_slice.ensures.items) ∙ ap (λ ts. c.args.tokens.now.items ++ ts) (sym (unmoved c.args.shift zero.0 zero.1 zero.2 zero.3 c.args.added.now))

pub returns-then-fits_reach-clause-fits : goal.returns-then-fits_reach-clause-fits
returns-then-fits_reach-clause-fits c = (
  λ e. elim c.then-fits_reach.branch [
    | then-fits_reach-via-then-fits_reach b ↦ all-in-bounds c.args.shift c.push_each-reach.result (c.fits_reach.ensures b.if-fits_reach.true) c.args.added.now c.push_each-reach.ensures.reach
    | then-fits_reach-via-else-fits_reach+then-fits_all b ↦ b.fits_all.ensures.0 b.if-fits_all.true
  ],
  λ h. refl,
)

pub returns-then-fits_reach-clause-items : goal.returns-then-fits_reach-clause-items
returns-then-fits_reach-clause-items c = λ e. c.push_each-reach.ensures.items ((returns-then-fits_reach-clause-fits c).0 refl)
