-- Depth and outcome of plans, by cases.
use Rattle.std.proofs.Common.{◌≡◌, ℕ, List, [], ◌∷◌, ◌++◌, map, ◌+◌, max, Vec, Box, refl, ap, sym}
use Rattle.std.proofs.Common.{◌∙◌}
use Rattle.std.specs.declared.alloc.Global.{Global}
use Rattle.std.specs.Borrow.{Bor}
use Rattle.oxc_sourcemap_join.specs.Joined.{at_line, at_lines, at_positions}
use Rattle.oxc_sourcemap_plan.specs.declared.plan.Plan.{Plan}
use Rattle.oxc_sourcemap_plan.specs.declared.plan.Plan.TheVariants.{Read, rolls-Read, Rewrite}
use Rattle.oxc_sourcemap_plan.specs.declared.plan.Plan.TheVariants.{rolls-Rewrite, Join, rolls-Join}
use Rattle.oxc_sourcemap_plan.specs.declared.plan.Plan.TheVariants.{JoinAt, rolls-JoinAt, Compose}
use Rattle.oxc_sourcemap_plan.specs.declared.plan.Plan.TheVariants.{rolls-Compose, ApplyRoot}
use Rattle.oxc_sourcemap_plan.specs.declared.plan.Plan.TheVariants.{rolls-ApplyRoot, Remap}
use Rattle.oxc_sourcemap_plan.specs.declared.plan.Plan.TheVariants.{rolls-Remap, ReadSorted}
use Rattle.oxc_sourcemap_plan.specs.declared.plan.Plan.TheVariants.{rolls-ReadSorted, Simplify}
use Rattle.oxc_sourcemap_plan.specs.declared.plan.Plan.TheVariants.{rolls-Simplify}
use Rattle.oxc_sourcemap_plan.specs.declared.plan.Plan.TheOpen.{Plan-F}
use Rattle.oxc_sourcemap_plan.specs.declared.plan.Plan.TheFolds.{fold-roll-Plan}
use Rattle.oxc_sourcemap_plan.specs.Depth.{depth, depth_step, deepest}
use Rattle.oxc_sourcemap_plan.specs.Meaning.{by_path}
use Rattle.oxc_sourcemap_plan.specs.Outcome.{Outcome, outcome_of, outcomes, outcome_step}
use Rattle.oxc_sourcemap_plan.specs.Outcome.{read_outcome, rewrite_outcome, root_outcome}
use Rattle.oxc_sourcemap_plan.specs.Outcome.{join_outcome, composition_outcome, remap_outcome}
use Rattle.oxc_sourcemap_plan.specs.Outcome.{input_outcomes, sorted_outcome, simplified_outcome}

firsts : {A B C : Type 0} (f : A → C) (parts : List (A × B)) → map (λ (p : C × B). p.0) (map (λ (p : A × B). (f p.0, p.1)) parts) ≡ map (λ p. f p.0) parts
firsts f [] = refl
firsts f (p ∷ parts) = ap (λ xs. f p.0 ∷ xs) (firsts f parts)

firsts-of-three : {A B C : Type 0} (f : A → C) (parts : List (A × B × B)) → map (λ (p : C × B × B). p.0) (map (λ (p : A × B × B). (f p.0, p.1, p.2)) parts) ≡ map (λ p. f p.0) parts
firsts-of-three f [] = refl
firsts-of-three f (p ∷ parts) = ap (λ xs. f p.0 ∷ xs) (firsts-of-three f parts)

pub depth_join : (parts : Vec (Plan × ℕ) Global) → depth (Join parts) ≡ deepest (map (λ p. depth p.0) parts.items) + 1
depth_join parts = ap depth (sym (rolls-Join parts)) ∙ fold-roll-Plan ℕ depth_step (Plan-F.Join parts) ∙ ap (λ ds. deepest ds + 1) (firsts depth parts.items)

pub depth_join_at : (parts : Vec (Plan × ℕ × ℕ) Global) → depth (JoinAt parts) ≡ deepest (map (λ p. depth p.0) parts.items) + 1
depth_join_at parts = ap depth (sym (rolls-JoinAt parts)) ∙ fold-roll-Plan ℕ depth_step (Plan-F.JoinAt parts) ∙ ap (λ ds. deepest ds + 1) (firsts-of-three depth parts.items)

outcomes-at_lines : (parts : List (Plan × ℕ)) → at_lines (map (λ p. (outcome_of p.0, p.1)) parts) ≡ outcomes (at_lines parts)
outcomes-at_lines [] = refl
outcomes-at_lines (p ∷ parts) = ap (λ xs. (outcome_of p.0, at_line p.1) ∷ xs) (outcomes-at_lines parts)

-- the outcomes of the parts of a join, with one part more
pub outcomes-lines-pushed : (parts : List (Plan × ℕ)) (p : Plan × ℕ) → outcomes (at_lines (parts ++ p ∷ [])) ≡ outcomes (at_lines parts) ++ (outcome_of p.0, at_line p.1) ∷ []
outcomes-lines-pushed [] p = refl
outcomes-lines-pushed (q ∷ parts) p = ap (λ xs. (outcome_of q.0, at_line q.1) ∷ xs) (outcomes-lines-pushed parts p)

pub outcomes-positions-pushed : (parts : List (Plan × ℕ × ℕ)) (p : Plan × ℕ × ℕ) → outcomes (at_positions (parts ++ p ∷ [])) ≡ outcomes (at_positions parts) ++ (outcome_of p.0, record { line = p.1; column = p.2 }) ∷ []
outcomes-positions-pushed [] p = refl
outcomes-positions-pushed (q ∷ parts) p = ap (λ xs. (outcome_of q.0, record { line = q.1; column = q.2 }) ∷ xs) (outcomes-positions-pushed parts p)

outcomes-at_positions : (parts : List (Plan × ℕ × ℕ)) → at_positions (map (λ p. (outcome_of p.0, p.1, p.2)) parts) ≡ outcomes (at_positions parts)
outcomes-at_positions [] = refl
outcomes-at_positions (p ∷ parts) = ap (λ xs. (outcome_of p.0, record { line = p.1; column = p.2 }) ∷ xs) (outcomes-at_positions parts)

pub outcome_join : (parts : Vec (Plan × ℕ) Global) → outcome_of (Join parts) ≡ join_outcome (outcomes (at_lines parts.items))
outcome_join parts = ap outcome_of (sym (rolls-Join parts)) ∙ fold-roll-Plan Outcome outcome_step (Plan-F.Join parts) ∙ ap join_outcome (outcomes-at_lines parts.items)

pub outcome_join_at : (parts : Vec (Plan × ℕ × ℕ) Global) → outcome_of (JoinAt parts) ≡ join_outcome (outcomes (at_positions parts.items))
outcome_join_at parts = ap outcome_of (sym (rolls-JoinAt parts)) ∙ fold-roll-Plan Outcome outcome_step (Plan-F.JoinAt parts) ∙ ap join_outcome (outcomes-at_positions parts.items)

pub outcome_parts : (plan : Plan) (parts : Vec (Plan × ℕ) Global) (items : List (Plan × ℕ)) → plan ≡ Join parts → items ≡ parts.items → outcome_of plan ≡ join_outcome (outcomes (at_lines items))
outcome_parts plan parts items e f = ap outcome_of e ∙ outcome_join parts ∙ ap (λ xs. join_outcome (outcomes (at_lines xs))) (sym f)

pub outcome_parts_at : (plan : Plan) (parts : Vec (Plan × ℕ × ℕ) Global) (items : List (Plan × ℕ × ℕ)) → plan ≡ JoinAt parts → items ≡ parts.items → outcome_of plan ≡ join_outcome (outcomes (at_positions items))
outcome_parts_at plan parts items e f = ap outcome_of e ∙ outcome_join_at parts ∙ ap (λ xs. join_outcome (outcomes (at_positions xs))) (sym f)

pub outcome_compose : (p q : Box Plan Global) → outcome_of (Compose p q) ≡ composition_outcome (outcome_of p.value) (outcome_of q.value)
outcome_compose p q = ap outcome_of (sym (rolls-Compose p q)) ∙ fold-roll-Plan Outcome outcome_step (Plan-F.Compose p q)

pub outcome_read_sorted : (text : Bor (List ℕ)) → outcome_of (ReadSorted text) ≡ sorted_outcome text.now
outcome_read_sorted text = ap outcome_of (sym (rolls-ReadSorted text)) ∙ fold-roll-Plan Outcome outcome_step (Plan-F.ReadSorted text)

pub outcome_read : (text : Bor (List ℕ)) → outcome_of (Read text) ≡ read_outcome text.now
outcome_read text = ap outcome_of (sym (rolls-Read text)) ∙ fold-roll-Plan Outcome outcome_step (Plan-F.Read text)

pub outcome_rewrite : (p : Box Plan Global) → outcome_of (Rewrite p) ≡ rewrite_outcome (outcome_of p.value)
outcome_rewrite p = ap outcome_of (sym (rolls-Rewrite p)) ∙ fold-roll-Plan Outcome outcome_step (Plan-F.Rewrite p)

pub outcome_root : (p : Box Plan Global) → outcome_of (ApplyRoot p) ≡ root_outcome (outcome_of p.value)
outcome_root p = ap outcome_of (sym (rolls-ApplyRoot p)) ∙ fold-roll-Plan Outcome outcome_step (Plan-F.ApplyRoot p)

pub outcome_simplified : (p : Box Plan Global) → outcome_of (Simplify p) ≡ simplified_outcome (outcome_of p.value)
outcome_simplified p = ap outcome_of (sym (rolls-Simplify p)) ∙ fold-roll-Plan Outcome outcome_step (Plan-F.Simplify p)

seconds : {A B C : Type 0} (f : A → C) (parts : List (B × A)) → map (λ (p : B × C). p.1) (map (λ (p : B × A). (p.0, f p.1)) parts) ≡ map (λ p. f p.1) parts
seconds f [] = refl
seconds f (p ∷ parts) = ap (λ xs. f p.1 ∷ xs) (seconds f parts)

pub depth_remap : (p : Box Plan Global) (inputs : Vec (Bor (List ℕ) × Plan) Global) → depth (Remap p inputs) ≡ max (depth p.value) (deepest (map (λ p. depth p.1) inputs.items)) + 1
depth_remap p inputs = ap depth (sym (rolls-Remap p inputs)) ∙ fold-roll-Plan ℕ depth_step (Plan-F.Remap p inputs) ∙ ap (λ ds. max (depth p.value) (deepest ds) + 1) (seconds depth inputs.items)

outcomes-by_path : (inputs : List (Bor (List ℕ) × Plan)) → by_path (map (λ p. (p.0, outcome_of p.1)) inputs) ≡ input_outcomes (by_path inputs)
outcomes-by_path [] = refl
outcomes-by_path (p ∷ inputs) = ap (λ xs. (p.0.now, outcome_of p.1) ∷ xs) (outcomes-by_path inputs)

-- the outcomes of inputs, with one input more
pub outcomes-inputs-pushed : (inputs : List (Bor (List ℕ) × Plan)) (p : Bor (List ℕ) × Plan) → input_outcomes (by_path (inputs ++ p ∷ [])) ≡ input_outcomes (by_path inputs) ++ (p.0.now, outcome_of p.1) ∷ []
outcomes-inputs-pushed [] p = refl
outcomes-inputs-pushed (q ∷ inputs) p = ap (λ xs. (q.0.now, outcome_of q.1) ∷ xs) (outcomes-inputs-pushed inputs p)

pub outcome_remap : (p : Box Plan Global) (inputs : Vec (Bor (List ℕ) × Plan) Global) → outcome_of (Remap p inputs) ≡ remap_outcome (outcome_of p.value) (input_outcomes (by_path inputs.items))
outcome_remap p inputs = ap outcome_of (sym (rolls-Remap p inputs)) ∙ fold-roll-Plan Outcome outcome_step (Plan-F.Remap p inputs) ∙ ap (remap_outcome (outcome_of p.value)) (outcomes-by_path inputs.items)

pub outcome_inputs : (plan first : Plan) (p : Box Plan Global) (inputs : Vec (Bor (List ℕ) × Plan) Global) (items : List (Bor (List ℕ) × Plan)) → plan ≡ Remap p inputs → first ≡ p.value → items ≡ inputs.items
    → outcome_of plan ≡ remap_outcome (outcome_of first) (input_outcomes (by_path items))
outcome_inputs plan first p inputs items e d f =
    ap outcome_of e ∙ outcome_remap p inputs ∙ ap (λ q. remap_outcome (outcome_of q) (input_outcomes (by_path inputs.items))) (sym d)
    ∙ ap (λ xs. remap_outcome (outcome_of first) (input_outcomes (by_path xs))) (sym f)
