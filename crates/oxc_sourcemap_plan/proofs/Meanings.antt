-- What a plan means is what its outcome means.
use Rattle.std.proofs.Common.{◌≡◌, ℕ, true, false, cond, nat_le, List, [], ◌∷◌, map, refl, sym, ap}
use Rattle.std.proofs.Common.{◌∙◌, subst, Err}
use Rattle.std.specs.Borrow.{Bor}
use Rattle.oxc_sourcemap_parts.specs.Record.{Text}
use Rattle.oxc_sourcemap_tokens.specs.declared.errors.plan_error.PlanError.TheVariants.{TooDeep}
use Rattle.oxc_sourcemap_json.specs.ReadMap.{ReadForm, plain, indexed, form_of_text}
use Rattle.oxc_sourcemap_join.specs.Joined.{at_line, at_lines, at_positions}
use Rattle.oxc_sourcemap_plan.specs.declared.plan.Plan.{Plan}
use Rattle.oxc_sourcemap_plan.specs.declared.plan.Plan.TheOpen.{Plan-F}
use Rattle.oxc_sourcemap_plan.specs.declared.plan.Plan.TheViews.{roll-Plan}
use Rattle.oxc_sourcemap_plan.specs.declared.plan.Plan.TheFolds.{fold-roll-Plan, map-Plan, ind-Plan}
use Rattle.oxc_sourcemap_plan.specs.Depth.{depth}
use Rattle.oxc_sourcemap_plan.specs.Meaning.{Meaning, meaning_step, meaning_of, meaning}
use Rattle.oxc_sourcemap_plan.specs.Meaning.{form_meaning, sorted_form_meaning, root_meaning}
use Rattle.oxc_sourcemap_plan.specs.Meaning.{all_decoded_maps, join_meaning, composition_meaning}
use Rattle.oxc_sourcemap_plan.specs.Meaning.{by_path, all_inputs, remap_meaning, simplified_meaning}
use Rattle.oxc_sourcemap_plan.specs.Outcome.{sorted_form_outcome, Outcome, outcome_step, outcome_of}
use Rattle.oxc_sourcemap_plan.specs.Outcome.{outcome, too_deep, form_outcome, meanings}
use Rattle.oxc_sourcemap_plan.specs.Outcome.{input_meanings}

-- the outcome of this plan means what the plan means
abbrev pub Agrees : Plan → Type 0
Agrees plan = (outcome_of plan).meaning ≡ meaning_of plan

-- a part that agrees
abbrev Part : Type 0
Part = (plan : Plan) × Agrees plan

of-text : (form : ReadForm) → (form_outcome form).meaning ≡ form_meaning form
of-text (plain answer) = refl
of-text (indexed file found) = refl

of-sorted_text : (form : ReadForm) → (sorted_form_outcome form).meaning ≡ sorted_form_meaning form
of-sorted_text (plain answer) = refl
of-sorted_text (indexed file found) = refl

of-lines : (parts : List (Part × ℕ)) → meanings (at_lines (map (λ (p : Plan × ℕ). (outcome_of p.0, p.1)) (map (λ (p : Part × ℕ). (p.0.0, p.1)) parts))) ≡ at_lines (map (λ (p : Plan × ℕ). (meaning_of p.0, p.1)) (map (λ (p : Part × ℕ). (p.0.0, p.1)) parts))
of-lines [] = refl
of-lines (p ∷ parts) =
    ap (λ m. (m, at_line p.1) ∷ meanings (at_lines (map (λ (p : Plan × ℕ). (outcome_of p.0, p.1)) (map (λ (p : Part × ℕ). (p.0.0, p.1)) parts)))) p.0.1
    ∙ ap (λ ms. (meaning_of p.0.0, at_line p.1) ∷ ms) (of-lines parts)

of-positions : (parts : List (Part × ℕ × ℕ)) → meanings (at_positions (map (λ (p : Plan × ℕ × ℕ). (outcome_of p.0, p.1, p.2)) (map (λ (p : Part × ℕ × ℕ). (p.0.0, p.1, p.2)) parts))) ≡ at_positions (map (λ (p : Plan × ℕ × ℕ). (meaning_of p.0, p.1, p.2)) (map (λ (p : Part × ℕ × ℕ). (p.0.0, p.1, p.2)) parts))
of-positions [] = refl
of-positions (p ∷ parts) =
    ap (λ m. (m, record { line = p.1; column = p.2 }) ∷ meanings (at_positions (map (λ (p : Plan × ℕ × ℕ). (outcome_of p.0, p.1, p.2)) (map (λ (p : Part × ℕ × ℕ). (p.0.0, p.1, p.2)) parts)))) p.0.1
    ∙ ap (λ ms. (meaning_of p.0.0, record { line = p.1; column = p.2 }) ∷ ms) (of-positions parts)

of-inputs : (inputs : List (Bor Text × Part)) → input_meanings (by_path (map (λ (p : Bor Text × Plan). (p.0, outcome_of p.1)) (map (λ (p : Bor Text × Part). (p.0, p.1.0)) inputs))) ≡ by_path (map (λ (p : Bor Text × Plan). (p.0, meaning_of p.1)) (map (λ (p : Bor Text × Part). (p.0, p.1.0)) inputs))
of-inputs [] = refl
of-inputs (p ∷ inputs) =
    ap (λ m. (p.0.now, m) ∷ input_meanings (by_path (map (λ (p : Bor Text × Plan). (p.0, outcome_of p.1)) (map (λ (p : Bor Text × Part). (p.0, p.1.0)) inputs)))) p.1.1
    ∙ ap (λ ms. (p.0.now, meaning_of p.1.0) ∷ ms) (of-inputs inputs)

-- the cases agree if the parts do
same : (y : Plan-F Part) → (outcome_step (map-Plan Plan Outcome outcome_of (map-Plan Part Plan (λ p. p.0) y))).meaning ≡ meaning_step (map-Plan Plan Meaning meaning_of (map-Plan Part Plan (λ p. p.0) y))
same (Plan-F.Read text) = of-text (form_of_text text.now)
same (Plan-F.ReadSorted text) = of-sorted_text (form_of_text text.now)
same (Plan-F.Rewrite part) = part.value.1
same (Plan-F.ApplyRoot part) = ap root_meaning part.value.1
same (Plan-F.Simplify part) = ap simplified_meaning part.value.1
same (Plan-F.Join parts) = ap (λ ms. join_meaning (all_decoded_maps ms)) (of-lines parts.items)
same (Plan-F.JoinAt parts) = ap (λ ms. join_meaning (all_decoded_maps ms)) (of-positions parts.items)
same (Plan-F.Compose first second) = ap (λ m. composition_meaning m (outcome_of second.value.0).meaning) first.value.1 ∙ ap (composition_meaning (meaning_of first.value.0)) second.value.1
same (Plan-F.Remap first inputs) =
    ap (λ m. remap_meaning m (all_inputs (input_meanings (by_path (map (λ (p : Bor Text × Plan). (p.0, outcome_of p.1)) (map (λ (p : Bor Text × Part). (p.0, p.1.0)) inputs.items)))))) first.value.1
    ∙ ap (λ ms. remap_meaning (meaning_of first.value.0) (all_inputs ms)) (of-inputs inputs.items)

agrees-by : (x : Plan-F Plan) → (outcome_step (map-Plan Plan Outcome outcome_of x)).meaning ≡ meaning_step (map-Plan Plan Meaning meaning_of x) → Agrees (roll-Plan x)
agrees-by x e = ap (λ (o : Outcome). o.meaning) (fold-roll-Plan Outcome outcome_step x) ∙ e ∙ sym (fold-roll-Plan Meaning meaning_step x)

pub agrees : (plan : Plan) → Agrees plan
agrees = ind-Plan Agrees (λ x y is. subst (λ z. Agrees (roll-Plan z)) is (agrees-by (map-Plan Part Plan (λ p. p.0) y) (same y)))

-- the outcome of a plan that may be too deep
pub same_meaning : (plan : Plan) → (outcome plan).meaning ≡ meaning plan
same_meaning plan =
    elim (nat_le (depth plan) 64) as (λ b. (cond b (outcome_of plan) (too_deep (outcome_of plan).texts)).meaning ≡ cond b (meaning_of plan) (Err TooDeep)) [ true ↦ agrees plan | false ↦ refl ]
