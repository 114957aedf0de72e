use Rattle.oxc_sourcemap_join.proofs.shift.Shift.error_without_room.Goals as goal

pub returns-then-fits_all-clause-too_large : goal.returns-then-fits_all-clause-too_large
returns-then-fits_all-clause-too_large c = (λ e. absurd cc, λ n. absurd (n (c.fits_all.ensures.0 c.if-fits_all.true)))
