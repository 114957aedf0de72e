-- The parts of a join, as far as they have come.
use Rattle.std.proofs.Common.{◌≡◌, ℕ, ◌+◌, ◌<◌, ◌≤◌, List, [], ◌∷◌, ◌++◌, map, length, take, drop}
use Rattle.std.proofs.Common.{get_or, refl, sym, ap, ◌∙◌, subst, arith, Result, Ok, Err}
use Rattle.std.specs.Result.{IfErr, IsErrAnd}
use Rattle.std.proofs.lemmas.List.{take_more, drop_more, take-append-drop, map-append}
use Rattle.std.specs.Borrow.{Bor}
use Rattle.oxc_sourcemap_parts.specs.Record.{Text, MapRecord}
use Rattle.oxc_sourcemap_parts.specs.Views.{record_of_parts}
use Rattle.oxc_sourcemap_parts.specs.declared.parts.SourceMapParts.{SourceMapParts}
use Rattle.oxc_sourcemap_steps.specs.Inputs.{owned_input_records}
use Rattle.oxc_sourcemap_tokens.specs.declared.position.Position.{Position}
use Rattle.oxc_sourcemap_join.specs.Joined.{at_line, owned_records}
use Rattle.oxc_sourcemap_join.proofs.Adding.{records_pushed}
use Rattle.oxc_sourcemap_plan.specs.declared.plan.Plan.{Plan}
use Rattle.oxc_sourcemap_tokens.specs.declared.errors.plan_error.PlanError.{PlanError}
use Rattle.oxc_sourcemap_plan.specs.Depth.{deepest}
use Rattle.oxc_sourcemap_plan.specs.Meaning.{by_path}
use Rattle.oxc_sourcemap_plan.specs.Outcome.{Outcome, outcome_of, outcomes, join_outcome}
use Rattle.oxc_sourcemap_plan.specs.Outcome.{remap_outcome, input_outcomes}
use Rattle.oxc_sourcemap_plan.specs.Realizes.{Realizes, FailsAs, AllRealize, InputsRealize}
use Rattle.oxc_sourcemap_plan.proofs.Realizing.{part_fails}
use Rattle.oxc_sourcemap_plan.proofs.Remapping.{input_fails}

-- the error that a `?` returns
pub from_err : {X E : Type 0} (r : Result X E) (P Q : E → Type 0) → IsErrAnd r P → ((e : E) → P e → Q e) → IfErr r Q
from_err (Ok x) P Q h f = tt
from_err (Err e) P Q h f = f e h

-- the list in two halves around its item i
pub around : {A : Type 0} (ps : List A) (i : ℕ) (p : A) → i < length ps → p ≡ get_or ps i p → ps ≡ take i ps ++ p ∷ drop (i + 1) ps
around ps i p l q = sym (take-append-drop i ps) ∙ ap (λ xs. take i ps ++ xs) (drop_more ps i p l ∙ ap (λ x. x ∷ drop (i + 1) ps) (sym q))

below_deepest : {A : Type 0} (f : A → ℕ) (xs ys : List A) (p : A) → f p ≤ deepest (map f (xs ++ p ∷ ys))
below_deepest f [] ys p = grind (arith)
below_deepest f (x ∷ xs) ys p = grind (arith, below_deepest f xs ys p)

-- no part of a join is deeper than the deepest
pub part_below_deepest : {A : Type 0} (f : A → ℕ) (ps : List A) (i : ℕ) (p : A) → i < length ps → p ≡ get_or ps i p → f p ≤ deepest (map f ps)
part_below_deepest f ps i p l q = subst (λ xs. f p ≤ deepest (map f xs)) (sym (around ps i p l q)) (below_deepest f (take i ps) (drop (i + 1) ps) p)

-- the maps of parts, with one part more
one_more : (ms : List (MapRecord × Position)) (ps : List (Plan × Position)) (m : MapRecord × Position) (p : Plan × Position) → AllRealize ms (outcomes ps) → Realizes m.0 (outcome_of p.0) → m.1 ≡ p.1 → AllRealize (ms ++ m ∷ []) (outcomes (ps ++ p ∷ []))
one_more [] [] m p h g e = ((g, e), tt)
one_more [] (q ∷ ps) m p h g e = absurd h
one_more (n ∷ ms) [] m p h g e = absurd h
one_more (n ∷ ms) (q ∷ ps) m p h g e = (h.0, one_more ms ps m p h.1 g e)

-- parts as they are stored, each with its position
module _ {A : Type 0} (part_at : A → Plan × Position) where
  pub more_given : (ms : List (MapRecord × Position)) (ps : List A) (i : ℕ) (m : MapRecord × Position) (p : A) → i < length ps → p ≡ get_or ps i p → AllRealize ms (outcomes (map part_at (take i ps)))
      → Realizes m.0 (outcome_of (part_at p).0) → m.1 ≡ (part_at p).1 → AllRealize (ms ++ m ∷ []) (outcomes (map part_at (take (i + 1) ps)))
  more_given ms ps i m p l e h g o =
      let next : take (i + 1) ps ≡ take i ps ++ p ∷ [] = take_more ps i p l ∙ ap (λ q. take i ps ++ q ∷ []) (sym e) in
      let parts : map part_at (take (i + 1) ps) ≡ map part_at (take i ps) ++ part_at p ∷ [] = ap (map part_at) next ∙ map-append part_at (take i ps) (p ∷ []) in
      subst (λ qs. AllRealize (ms ++ m ∷ []) (outcomes qs)) (sym parts) (one_more ms (map part_at (take i ps)) m (part_at p) h g o)

  -- the same of owned maps
  pub more_owned : (ms : List (SourceMapParts × Position)) (ps : List A) (i : ℕ) (m : SourceMapParts × Position) (p : A) (ns : List (SourceMapParts × Position)) → ns ≡ ms ++ m ∷ [] → i < length ps → p ≡ get_or ps i p
      → AllRealize (owned_records ms) (outcomes (map part_at (take i ps))) → Realizes (record_of_parts m.0) (outcome_of (part_at p).0) → m.1 ≡ (part_at p).1 → AllRealize (owned_records ns) (outcomes (map part_at (take (i + 1) ps)))
  more_owned ms ps i m p ns pushed l e h g o =
      subst (λ rs. AllRealize rs (outcomes (map part_at (take (i + 1) ps)))) (sym (records_pushed ms m ns pushed)) (more_given (owned_records ms) ps i (record_of_parts m.0, m.1) p l e h g o)

  pub part_error : (ms : List (MapRecord × Position)) (ps : List A) (i : ℕ) (p : A) (e : PlanError) → i < length ps → p ≡ get_or ps i p → AllRealize ms (outcomes (map part_at (take i ps)))
      → FailsAs e (outcome_of (part_at p).0) → FailsAs e (join_outcome (outcomes (map part_at ps)))
  part_error ms ps i p e l q h r =
      let t : map part_at ps ≡ map part_at (take i ps) ++ part_at p ∷ map part_at (drop (i + 1) ps) = ap (map part_at) (around ps i p l q) ∙ map-append part_at (take i ps) (p ∷ drop (i + 1) ps) in
      part_fails ms (outcomes (map part_at (take i ps))) (outcomes (map part_at (drop (i + 1) ps))) (outcome_of (part_at p).0) (part_at p).1 e h r (outcomes (map part_at ps))
      (ap outcomes t ∙ map-append (λ (p : Plan × Position). (outcome_of p.0, p.1)) (map part_at (take i ps)) (part_at p ∷ map part_at (drop (i + 1) ps)))

-- a part of a join at lines, at column 0 of its line
abbrev pub at_its_line : {A : Type 0} → A × ℕ → A × Position
at_its_line item = (item.0, at_line item.1)

-- a part of a join at lines and columns, at its position
abbrev pub at_its_position : {A : Type 0} → A × ℕ × ℕ → A × Position
at_its_position item = (item.0, record { line = item.1; column = item.2 })

-- ---- the inputs of a remapping, as far as they have come
-- the maps of inputs, with one input more
one_input_more : (ms : List (Text × MapRecord)) (os : List (Text × Outcome)) (m : Text × MapRecord) (o : Text × Outcome) → InputsRealize ms os → m.0 ≡ o.0 → Realizes m.1 o.1 → InputsRealize (ms ++ m ∷ []) (os ++ o ∷ [])
one_input_more [] [] m o h e g = ((e, g), tt)
one_input_more [] (p ∷ os) m o h e g = absurd h
one_input_more (n ∷ ms) [] m o h e g = absurd h
one_input_more (n ∷ ms) (p ∷ os) m o h e g = (h.0, one_input_more ms os m o h.1 e g)

abbrev pub input_at : Bor Text × Plan → Text × Outcome
input_at p = (p.0.now, outcome_of p.1)

-- these lists with one item more, or cut at it
pub outcomes-of : (ps : List (Bor Text × Plan)) → input_outcomes (by_path ps) ≡ map input_at ps
outcomes-of [] = refl
outcomes-of (p ∷ ps) = ap (λ os. input_at p ∷ os) (outcomes-of ps)

pub more_inputs : (ms : List (Bor Text × SourceMapParts)) (ps : List (Bor Text × Plan)) (i : ℕ) (m : Bor Text × SourceMapParts) (p : Bor Text × Plan) (ns : List (Bor Text × SourceMapParts)) → ns ≡ ms ++ m ∷ [] → i < length ps → p ≡ get_or ps i p
    → InputsRealize (owned_input_records ms) (input_outcomes (by_path (take i ps))) → m.0.now ≡ p.0.now → Realizes (record_of_parts m.1) (outcome_of p.1) → InputsRealize (owned_input_records ns) (input_outcomes (by_path (take (i + 1) ps)))
more_inputs ms ps i m p ns pushed l e h q g =
    let next : take (i + 1) ps ≡ take i ps ++ p ∷ [] = take_more ps i p l ∙ ap (λ q. take i ps ++ q ∷ []) (sym e) in
    let outcomes : input_outcomes (by_path (take (i + 1) ps)) ≡ map input_at (take i ps) ++ input_at p ∷ [] = outcomes-of (take (i + 1) ps) ∙ ap (map input_at) next ∙ map-append input_at (take i ps) (p ∷ []) in
    let maps : owned_input_records ns ≡ owned_input_records ms ++ (m.0.now, record_of_parts m.1) ∷ [] = ap owned_input_records pushed ∙ map-append (λ (m : Bor Text × SourceMapParts). (m.0.now, record_of_parts m.1)) ms (m ∷ []) in
    subst (λ xs. InputsRealize xs (input_outcomes (by_path (take (i + 1) ps)))) (sym maps) (subst (λ os. InputsRealize (owned_input_records ms ++ (m.0.now, record_of_parts m.1) ∷ []) os) (sym outcomes)
    (one_input_more (owned_input_records ms) (map input_at (take i ps)) (m.0.now, record_of_parts m.1) (input_at p) (subst (λ os. InputsRealize (owned_input_records ms) os) (outcomes-of (take i ps)) h) q g))

pub input_error : (a : MapRecord) (first : Outcome) (ms : List (Text × MapRecord)) (ps : List (Bor Text × Plan)) (i : ℕ) (p : Bor Text × Plan) (e : PlanError) → i < length ps → p ≡ get_or ps i p
    → Realizes a first → InputsRealize ms (input_outcomes (by_path (take i ps))) → FailsAs e (outcome_of p.1) → FailsAs e (remap_outcome first (input_outcomes (by_path ps)))
input_error a first ms ps i p e l q g h r =
    let cut : input_outcomes (by_path ps) ≡ map input_at (take i ps) ++ input_at p ∷ map input_at (drop (i + 1) ps) =
    outcomes-of ps ∙ ap (map input_at) (around ps i p l q) ∙ map-append input_at (take i ps) (p ∷ drop (i + 1) ps) in
    subst (λ os. FailsAs e (remap_outcome first os)) (sym cut)
    (input_fails a ms first (map input_at (take i ps)) (map input_at (drop (i + 1) ps)) (input_at p) e g (subst (λ os. InputsRealize ms os) (outcomes-of (take i ps)) h) r)
