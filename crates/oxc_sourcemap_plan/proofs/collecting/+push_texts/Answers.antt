use Rattle.std.proofs.Common.{◌≡◌, ℕ, ◌++◌, arith, List, ap, sym, ◌∙◌, append_assoc, Bor}
use Rattle.std.proofs.lemmas.List.{drop_all}
use Rattle.std.proofs.lemmas.Result.{IfOk-weaker}
use Rattle.std.specs.List.{flat_map}
use Rattle.oxc_sourcemap_tokens.specs.Results.{lent_items}
use Rattle.oxc_sourcemap_plan.specs.declared.plan.Plan.{Plan}
use Rattle.oxc_sourcemap_plan.specs.PlanPlaces.{texts_of}
use Rattle.oxc_sourcemap_plan.proofs.PlanTexts.{texts_join, texts_join_at, texts_compose}
use Rattle.oxc_sourcemap_plan.proofs.PlanTexts.{texts_remap, pushed}
use Rattle.oxc_sourcemap_plan.proofs.collecting.+push_texts.Goals as goal

pub returns-after-loop-part : goal.returns-after-loop-part
returns-after-loop-part t c =
    pushed (λ (p : Plan × ℕ). texts_of p.0) (lent_items c.loop-part.texts.items) (lent_items c.args.texts.now.items) c.deref-part-items.result.now
    c.in-Join.parts.items c.loop-part.part-index c.loop-part.invariant (drop_all c.loop-part.part-index c.deref-part-items.result.now (omega (arith, c.loop-part-test.false)))
    c.deref-part-items.ensures.value
    ∙ ap (λ ts. lent_items c.args.texts.now.items ++ ts) (sym (texts_join c.in-Join.parts) ∙ ap texts_of (sym c.in-Join.is))

pub returns-after-loop-piece : goal.returns-after-loop-piece
returns-after-loop-piece t c =
    pushed (λ (p : Plan × ℕ × ℕ). texts_of p.0) (lent_items c.loop-piece.texts.items) (lent_items c.args.texts.now.items) c.deref-piece-items.result.now
    c.in-JoinAt.parts.items c.loop-piece.piece-index c.loop-piece.invariant (drop_all c.loop-piece.piece-index c.deref-piece-items.result.now (omega (arith, c.loop-piece-test.false)))
    c.deref-piece-items.ensures.value
    ∙ ap (λ ts. lent_items c.args.texts.now.items ++ ts) (sym (texts_join_at c.in-JoinAt.parts) ∙ ap texts_of (sym c.in-JoinAt.is))

pub returns-in_ok-push_texts-in-Compose : goal.returns-in_ok-push_texts-in-Compose
returns-in_ok-push_texts-in-Compose t c =
    let old = lent_items c.args.texts.now.items in
    let first = texts_of c.in-Compose.first.value in
    let second = texts_of c.in-Compose.second.value in
    let mid : lent_items c.push_texts-in-Compose.new.texts.items ≡ old ++ first =
    c.in_ok-push_texts-in-Compose.ensures ∙ ap (λ plan. old ++ texts_of plan) c.deref-in-Compose.ensures in
    IfOk-weaker c.push_texts-in-Compose-2.result _ _ (λ _ h.
    h ∙ ap (λ plan. lent_items c.push_texts-in-Compose.new.texts.items ++ texts_of plan) c.deref-in-Compose-2.ensures
    ∙ ap (λ ts. ts ++ second) mid ∙ append_assoc old first second
    ∙ ap (λ ts. old ++ ts) (sym (texts_compose c.in-Compose.first c.in-Compose.second) ∙ ap texts_of (sym c.in-Compose.is))) c.push_texts-in-Compose-2.ensures

pub returns-after-loop-input : goal.returns-after-loop-input
returns-after-loop-input t c =
    let old = lent_items c.args.texts.now.items in
    let first = texts_of c.in-Remap.first.value in
    let others = flat_map (λ (p : Bor (List ℕ) × Plan). texts_of p.1) c.in-Remap.inputs.items in
    let mid : lent_items c.push_texts-in-Remap.new.texts.items ≡ old ++ first =
    c.in_ok-push_texts-in-Remap.ensures ∙ ap (λ plan. old ++ texts_of plan) c.deref-in-Remap.ensures in
    pushed (λ (p : Bor (List ℕ) × Plan). texts_of p.1) (lent_items c.loop-input.texts.items) (lent_items c.push_texts-in-Remap.new.texts.items) c.deref-input-items.result.now
    c.in-Remap.inputs.items c.loop-input.input-index c.loop-input.invariant (drop_all c.loop-input.input-index c.deref-input-items.result.now (omega (arith, c.loop-input-test.false)))
    c.deref-input-items.ensures.value
    ∙ ap (λ ts. ts ++ others) mid ∙ append_assoc old first others
    ∙ ap (λ ts. old ++ ts) (sym (texts_remap c.in-Remap.first c.in-Remap.inputs) ∙ ap texts_of (sym c.in-Remap.is))
