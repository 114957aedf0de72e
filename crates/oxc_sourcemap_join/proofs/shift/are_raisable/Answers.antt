use Rattle.std.proofs.Common.{ℕ, ◌+◌, ◌<◌, refl, sym, ◌∙◌, subst}
use Rattle.std.specs.List.{All}
use Rattle.std.proofs.lemmas.List.{take_all}
use Rattle.std.proofs.lemmas.List.Elements.{All-map, All-more}
use Rattle.oxc_sourcemap_join.proofs.Moving.{all-mapped-at}
use Rattle.oxc_sourcemap_join.proofs.shift.are_raisable.Goals as goal

pub returns-then-not-is_id_raisable : goal.returns-then-not-is_id_raisable
returns-then-not-is_id_raisable c =
    let f : ℕ → ℕ = λ id. id + c.args.number in (
      λ e. absurd cc,
      λ h. sym c.if-not-is_id_raisable.true ∙ c.is_id_raisable.ensures.1 (all-mapped-at (λ id. id < 4294967295) f c.args.ids.now c.loop-id.id-index 0 c.loop-id-test.true h),
    )

pub loop-id-preserved : goal.loop-id-preserved
loop-id-preserved c =
    let f : ℕ → ℕ = λ id. id + c.args.number in
    All-more (λ id. f id < 4294967295) c.args.ids.now c.loop-id.id-index 0 c.loop-id-test.true c.loop-id.invariant (c.is_id_raisable.ensures.0 c.if-not-is_id_raisable.false)

pub returns : goal.returns
returns c =
    let f : ℕ → ℕ = λ id. id + c.args.number in
    (λ e. All-map (λ id. id < 4294967295) f c.args.ids.now (subst (All (λ id. f id < 4294967295)) (take_all c.loop-id.id-index c.args.ids.now c.loop-id-test.false) c.loop-id.invariant), λ h. refl)
