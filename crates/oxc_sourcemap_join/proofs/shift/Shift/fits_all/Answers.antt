use Rattle.std.proofs.Common.{refl, sym, ◌∙◌, subst}
use Rattle.std.specs.List.{All}
use Rattle.std.proofs.lemmas.List.{take_all}
use Rattle.std.proofs.lemmas.List.Elements.{All-map, All-more}
use Rattle.oxc_sourcemap_tokens.specs.Token.{IsInBounds}
use Rattle.oxc_sourcemap_join.specs.Joined.{shifted}
use Rattle.oxc_sourcemap_join.proofs.Moving.{all-mapped-at}
use Rattle.oxc_sourcemap_join.proofs.shift.Shift.fits_all.Goals as goal

pub returns-then-not-fits : goal.returns-then-not-fits
returns-then-not-fits c =
    let f = shifted c.args.self.names c.args.self.sources c.args.self.position in
    let here = all-mapped-at IsInBounds f c.args.tokens.now c.loop-token.token-index c.token-item.result c.loop-token-test.true in (
      λ e. absurd cc,
      λ h. sym c.if-not-fits.true ∙ c.fits.ensures.1 (subst (λ t. IsInBounds (f t)) (sym c.token-item.is) (here h)),
    )

pub loop-token-preserved : goal.loop-token-preserved
loop-token-preserved c =
    let f = shifted c.args.self.names c.args.self.sources c.args.self.position in
    All-more (λ t. IsInBounds (f t)) c.args.tokens.now c.loop-token.token-index _ c.loop-token-test.true c.loop-token.invariant
    (subst (λ t. IsInBounds (f t)) c.token-item.is (c.fits.ensures.0 c.if-not-fits.false))

pub returns : goal.returns
returns c =
    let f = shifted c.args.self.names c.args.self.sources c.args.self.position in
    (λ e. All-map IsInBounds f c.args.tokens.now (subst (All (λ t. IsInBounds (f t))) (take_all c.loop-token.token-index c.args.tokens.now c.loop-token-test.false) c.loop-token.invariant), λ h. refl)
