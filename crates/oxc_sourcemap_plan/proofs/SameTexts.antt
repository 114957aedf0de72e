-- The texts of a plan are those of its outcome.
use Rattle.std.proofs.Common.{◌≡◌, ℕ, true, false, cond, nat_le, List, [], ◌∷◌, ◌++◌, map, refl}
use Rattle.std.proofs.Common.{sym}
use Rattle.std.proofs.Common.{ap, ◌∙◌, subst}
use Rattle.std.specs.List.{flat_map}
use Rattle.std.specs.Borrow.{Bor}
use Rattle.oxc_sourcemap_parts.specs.Record.{Text}
use Rattle.oxc_sourcemap_join.specs.Joined.{at_lines, at_positions}
use Rattle.oxc_sourcemap_plan.specs.declared.plan.Plan.{Plan}
use Rattle.oxc_sourcemap_plan.specs.declared.plan.Plan.TheOpen.{Plan-F}
use Rattle.oxc_sourcemap_plan.specs.declared.plan.Plan.TheViews.{roll-Plan}
use Rattle.oxc_sourcemap_plan.specs.declared.plan.Plan.TheFolds.{fold-roll-Plan, map-Plan, ind-Plan}
use Rattle.oxc_sourcemap_plan.specs.Depth.{depth}
use Rattle.oxc_sourcemap_plan.specs.Meaning.{by_path}
use Rattle.oxc_sourcemap_plan.specs.Outcome.{Outcome, outcome_step, outcome_of, outcome, too_deep}
use Rattle.oxc_sourcemap_plan.specs.Outcome.{texts_of_all, input_texts}
use Rattle.oxc_sourcemap_plan.specs.PlanPlaces.{texts_step, texts_of}

-- the outcome of this plan has the texts of the plan
abbrev Agrees : Plan → Type 0
Agrees plan = (outcome_of plan).texts ≡ texts_of plan

-- a part that agrees
abbrev Part : Type 0
Part = (plan : Plan) × Agrees plan

of-lines : (parts : List (Part × ℕ)) → texts_of_all (at_lines (map (λ (p : Plan × ℕ). (outcome_of p.0, p.1)) (map (λ (p : Part × ℕ). (p.0.0, p.1)) parts)))
    ≡ flat_map (λ (p : List Text × ℕ). p.0) (map (λ (p : Plan × ℕ). (texts_of p.0, p.1)) (map (λ (p : Part × ℕ). (p.0.0, p.1)) parts))
of-lines [] = refl
of-lines (p ∷ parts) =
    ap (λ ts. ts ++ texts_of_all (at_lines (map (λ (p : Plan × ℕ). (outcome_of p.0, p.1)) (map (λ (p : Part × ℕ). (p.0.0, p.1)) parts)))) p.0.1
    ∙ ap (λ ts. texts_of p.0.0 ++ ts) (of-lines parts)

of-positions : (parts : List (Part × ℕ × ℕ)) → texts_of_all (at_positions (map (λ (p : Plan × ℕ × ℕ). (outcome_of p.0, p.1, p.2)) (map (λ (p : Part × ℕ × ℕ). (p.0.0, p.1, p.2)) parts)))
    ≡ flat_map (λ (p : List Text × ℕ × ℕ). p.0) (map (λ (p : Plan × ℕ × ℕ). (texts_of p.0, p.1, p.2)) (map (λ (p : Part × ℕ × ℕ). (p.0.0, p.1, p.2)) parts))
of-positions [] = refl
of-positions (p ∷ parts) =
    ap (λ ts. ts ++ texts_of_all (at_positions (map (λ (p : Plan × ℕ × ℕ). (outcome_of p.0, p.1, p.2)) (map (λ (p : Part × ℕ × ℕ). (p.0.0, p.1, p.2)) parts)))) p.0.1
    ∙ ap (λ ts. texts_of p.0.0 ++ ts) (of-positions parts)

of-inputs : (inputs : List (Bor Text × Part)) → input_texts (by_path (map (λ (p : Bor Text × Plan). (p.0, outcome_of p.1)) (map (λ (p : Bor Text × Part). (p.0, p.1.0)) inputs)))
    ≡ flat_map (λ (p : Bor Text × List Text). p.1) (map (λ (p : Bor Text × Plan). (p.0, texts_of p.1)) (map (λ (p : Bor Text × Part). (p.0, p.1.0)) inputs))
of-inputs [] = refl
of-inputs (p ∷ inputs) =
    ap (λ ts. ts ++ input_texts (by_path (map (λ (p : Bor Text × Plan). (p.0, outcome_of p.1)) (map (λ (p : Bor Text × Part). (p.0, p.1.0)) inputs)))) p.1.1
    ∙ ap (λ ts. texts_of p.1.0 ++ ts) (of-inputs inputs)

-- the cases agree if the parts do
same : (y : Plan-F Part) → (outcome_step (map-Plan Plan Outcome outcome_of (map-Plan Part Plan (λ p. p.0) y))).texts ≡ texts_step (map-Plan Plan (List Text) texts_of (map-Plan Part Plan (λ p. p.0) y))
same (Plan-F.Read text) = refl
same (Plan-F.ReadSorted text) = refl
same (Plan-F.Rewrite part) = part.value.1
same (Plan-F.ApplyRoot part) = part.value.1
same (Plan-F.Simplify part) = part.value.1
same (Plan-F.Join parts) = of-lines parts.items
same (Plan-F.JoinAt parts) = of-positions parts.items
same (Plan-F.Compose first second) = ap (λ ts. ts ++ (outcome_of second.value.0).texts) first.value.1 ∙ ap (λ ts. texts_of first.value.0 ++ ts) second.value.1
same (Plan-F.Remap first inputs) =
    ap (λ ts. ts ++ input_texts (by_path (map (λ (p : Bor Text × Plan). (p.0, outcome_of p.1)) (map (λ (p : Bor Text × Part). (p.0, p.1.0)) inputs.items)))) first.value.1
    ∙ ap (λ ts. texts_of first.value.0 ++ ts) (of-inputs inputs.items)

agrees-by : (x : Plan-F Plan) → (outcome_step (map-Plan Plan Outcome outcome_of x)).texts ≡ texts_step (map-Plan Plan (List Text) texts_of x) → Agrees (roll-Plan x)
agrees-by x e = ap (λ (o : Outcome). o.texts) (fold-roll-Plan Outcome outcome_step x) ∙ e ∙ sym (fold-roll-Plan (List Text) texts_step x)

agrees : (plan : Plan) → Agrees plan
agrees = ind-Plan Agrees (λ x y is. subst (λ z. Agrees (roll-Plan z)) is (agrees-by (map-Plan Part Plan (λ p. p.0) y) (same y)))

-- the outcome of a plan that may be too deep
pub same_texts : (plan : Plan) → (outcome plan).texts ≡ texts_of plan
same_texts plan =
    elim (nat_le (depth plan) 64) as (λ b. (cond b (outcome_of plan) (too_deep (outcome_of plan).texts)).texts ≡ texts_of plan) [ true ↦ agrees plan | false ↦ agrees plan ]
