-- The texts of plans, by cases.
use Rattle.std.proofs.Common.{◌≡◌, ℕ, List, [], ◌∷◌, ◌++◌, map, drop, Vec, Box, refl, sym, ap}
use Rattle.std.proofs.Common.{◌∙◌}
use Rattle.std.proofs.lemmas.List.{append-nil}
use Rattle.std.specs.List.{flat_map}
use Rattle.std.specs.declared.alloc.Global.{Global}
use Rattle.std.specs.Borrow.{Bor}
use Rattle.oxc_sourcemap_parts.specs.Record.{Text}
use Rattle.oxc_sourcemap_plan.specs.declared.plan.Plan.{Plan}
use Rattle.oxc_sourcemap_plan.specs.declared.plan.Plan.TheVariants.{Read, rolls-Read, ReadSorted}
use Rattle.oxc_sourcemap_plan.specs.declared.plan.Plan.TheVariants.{rolls-ReadSorted, Rewrite}
use Rattle.oxc_sourcemap_plan.specs.declared.plan.Plan.TheVariants.{rolls-Rewrite, ApplyRoot}
use Rattle.oxc_sourcemap_plan.specs.declared.plan.Plan.TheVariants.{rolls-ApplyRoot, Join}
use Rattle.oxc_sourcemap_plan.specs.declared.plan.Plan.TheVariants.{rolls-Join, JoinAt}
use Rattle.oxc_sourcemap_plan.specs.declared.plan.Plan.TheVariants.{rolls-JoinAt, Compose}
use Rattle.oxc_sourcemap_plan.specs.declared.plan.Plan.TheVariants.{rolls-Compose, Remap}
use Rattle.oxc_sourcemap_plan.specs.declared.plan.Plan.TheVariants.{rolls-Remap, Simplify}
use Rattle.oxc_sourcemap_plan.specs.declared.plan.Plan.TheVariants.{rolls-Simplify}
use Rattle.oxc_sourcemap_plan.specs.declared.plan.Plan.TheOpen.{Plan-F}
use Rattle.oxc_sourcemap_plan.specs.declared.plan.Plan.TheFolds.{fold-roll-Plan}
use Rattle.oxc_sourcemap_plan.specs.PlanPlaces.{texts_of, texts_step}

firsts : {B : Type 0} (parts : List (Plan × B)) → flat_map (λ (p : List Text × B). p.0) (map (λ (p : Plan × B). (texts_of p.0, p.1)) parts) ≡ flat_map (λ p. texts_of p.0) parts
firsts [] = refl
firsts (p ∷ parts) = ap (λ xs. texts_of p.0 ++ xs) (firsts parts)

firsts-of-three : {B : Type 0} (parts : List (Plan × B × B)) → flat_map (λ (p : List Text × B × B). p.0) (map (λ (p : Plan × B × B). (texts_of p.0, p.1, p.2)) parts) ≡ flat_map (λ p. texts_of p.0) parts
firsts-of-three [] = refl
firsts-of-three (p ∷ parts) = ap (λ xs. texts_of p.0 ++ xs) (firsts-of-three parts)

seconds : {B : Type 0} (parts : List (B × Plan)) → flat_map (λ (p : B × List Text). p.1) (map (λ (p : B × Plan). (p.0, texts_of p.1)) parts) ≡ flat_map (λ p. texts_of p.1) parts
seconds [] = refl
seconds (p ∷ parts) = ap (λ xs. texts_of p.1 ++ xs) (seconds parts)

pub texts_read : (text : Bor (List ℕ)) → texts_of (Read text) ≡ text.now ∷ []
texts_read text = ap texts_of (sym (rolls-Read text)) ∙ fold-roll-Plan (List Text) texts_step (Plan-F.Read text)

pub texts_read_sorted : (text : Bor (List ℕ)) → texts_of (ReadSorted text) ≡ text.now ∷ []
texts_read_sorted text = ap texts_of (sym (rolls-ReadSorted text)) ∙ fold-roll-Plan (List Text) texts_step (Plan-F.ReadSorted text)

pub texts_rewrite : (p : Box Plan Global) → texts_of (Rewrite p) ≡ texts_of p.value
texts_rewrite p = ap texts_of (sym (rolls-Rewrite p)) ∙ fold-roll-Plan (List Text) texts_step (Plan-F.Rewrite p)

pub texts_root : (p : Box Plan Global) → texts_of (ApplyRoot p) ≡ texts_of p.value
texts_root p = ap texts_of (sym (rolls-ApplyRoot p)) ∙ fold-roll-Plan (List Text) texts_step (Plan-F.ApplyRoot p)

pub texts_simplify : (p : Box Plan Global) → texts_of (Simplify p) ≡ texts_of p.value
texts_simplify p = ap texts_of (sym (rolls-Simplify p)) ∙ fold-roll-Plan (List Text) texts_step (Plan-F.Simplify p)

pub texts_join : (parts : Vec (Plan × ℕ) Global) → texts_of (Join parts) ≡ flat_map (λ p. texts_of p.0) parts.items
texts_join parts = ap texts_of (sym (rolls-Join parts)) ∙ fold-roll-Plan (List Text) texts_step (Plan-F.Join parts) ∙ firsts parts.items

pub texts_join_at : (parts : Vec (Plan × ℕ × ℕ) Global) → texts_of (JoinAt parts) ≡ flat_map (λ p. texts_of p.0) parts.items
texts_join_at parts = ap texts_of (sym (rolls-JoinAt parts)) ∙ fold-roll-Plan (List Text) texts_step (Plan-F.JoinAt parts) ∙ firsts-of-three parts.items

pub texts_compose : (p q : Box Plan Global) → texts_of (Compose p q) ≡ texts_of p.value ++ texts_of q.value
texts_compose p q = ap texts_of (sym (rolls-Compose p q)) ∙ fold-roll-Plan (List Text) texts_step (Plan-F.Compose p q)

pub texts_remap : (p : Box Plan Global) (inputs : Vec (Bor (List ℕ) × Plan) Global) → texts_of (Remap p inputs) ≡ texts_of p.value ++ flat_map (λ p. texts_of p.1) inputs.items
texts_remap p inputs = ap texts_of (sym (rolls-Remap p inputs)) ∙ fold-roll-Plan (List Text) texts_step (Plan-F.Remap p inputs) ∙ ap (λ xs. texts_of p.value ++ xs) (seconds inputs.items)

-- all parts have been passed: their texts are behind the old ones
pub pushed : {A : Type 0} (f : A → List Text) (now old : List Text) (items all : List A) (i : ℕ) → now ++ flat_map f (drop i items) ≡ old ++ flat_map f items → drop i items ≡ [] → items ≡ all
    → now ≡ old ++ flat_map f all
pushed f now old items all i h none same =
    sym (append-nil now) ∙ ap (λ xs. now ++ flat_map f xs) (sym none) ∙ h ∙ ap (λ xs. old ++ flat_map f xs) same
