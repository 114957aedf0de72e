-- The texts of a plan that was read from words are inputs.
use Rattle.std.proofs.Common.{◌≡◌, ℕ, zero, suc, Bool, true, false, cond, ◌==◌, ◌&&◌, List, []}
use Rattle.std.proofs.Common.{◌∷◌, codes, refl, sym, ap, ◌∙◌, subst, Option, Some, None, Result, Ok}
use Rattle.std.proofs.Common.{Err}
use Rattle.std.proofs.Common.{bytes_eq, nat_le}
use Rattle.std.specs.Prelude.{⊤}
use Rattle.std.specs.Result.{IfOk}
use Rattle.std.specs.List.{slice_get, list_all, AllByRecursion}
use Rattle.std.proofs.lemmas.Bool.{and_parts}
use Rattle.oxc_sourcemap_parts.specs.Record.{Text}
use Rattle.oxc_sourcemap_tokens.specs.declared.position.Position.{Position}
use Rattle.oxc_sourcemap_plan.specs.declared.plan.Plan.{Plan}
use Rattle.oxc_sourcemap_plan.specs.declared.run_error.RunError.{RunError}
use Rattle.oxc_sourcemap_plan.specs.Depth.{depth}
use Rattle.oxc_sourcemap_plan.specs.declared.run_error.RunError.TheVariants.{Arguments}
use Rattle.oxc_sourcemap_plan.specs.Evaluated.{is_among, are_among}
use Rattle.oxc_sourcemap_plan.specs.Numbers.{number_of}
use Rattle.oxc_sourcemap_plan.specs.Outcome.{Outcome, texts_of_all, input_texts, rewrite_outcome}
use Rattle.oxc_sourcemap_plan.specs.Outcome.{root_outcome, simplified_outcome, join_outcome}
use Rattle.oxc_sourcemap_plan.specs.Outcome.{composition_outcome, remap_outcome, outcome_of}
use Rattle.oxc_sourcemap_plan.specs.Outcome.{outcome, too_deep}
use Rattle.oxc_sourcemap_plan.specs.PlanArguments.{Parsed, then_parsed, parsed_number}
use Rattle.oxc_sourcemap_plan.specs.PlanArguments.{text_or_fault}
use Rattle.oxc_sourcemap_plan.specs.PlanArguments.{text_of_number, parsed_text, read_of_text}
use Rattle.oxc_sourcemap_plan.specs.PlanArguments.{sorted_of_text, with_rest, parsed_sort}
use Rattle.oxc_sourcemap_plan.specs.PlanArguments.{parsed_beginning, parsed_join_part, parsed_path}
use Rattle.oxc_sourcemap_plan.specs.PlanArguments.{parsed_input_part, parsed_items, parsed_list}
use Rattle.oxc_sourcemap_plan.specs.PlanArguments.{parsed_join, parsed_composition}
use Rattle.oxc_sourcemap_plan.specs.PlanArguments.{parsed_remapping}
use Rattle.oxc_sourcemap_plan.specs.PlanArguments.{parsed_by, parsed_part}
use Rattle.oxc_sourcemap_plan.proofs.KnownNames.{among-both, bytes-self, or-left, or-right}

-- ---- what is read, if it is
any : {A : Type 0} (r : Parsed A) → IfOk r (λ x. ⊤)
any (Ok x) = tt
any (Err e) = tt

next : {A B : Type 0} (P : A → Type 0) (Q : B → Type 0) (r : Parsed A) (f : A → List Text → Parsed B) → IfOk r (λ x. P x.0)
    → ((a : A) (left : List Text) → P a → IfOk (f a left) (λ y. Q y.0)) → IfOk (then_parsed r f) (λ y. Q y.0)
next P Q (Ok x) f h k = k x.0 x.1 h
next P Q (Err e) f h k = tt

items : {A : Type 0} (P : A → Type 0) (item : List Text → Parsed A) → ((arguments : List Text) → IfOk (item arguments) (λ x. P x.0))
    → (n : ℕ) (arguments : List Text) → IfOk (parsed_items item n arguments) (λ xs. AllByRecursion P xs.0)
items P item h zero arguments = tt
items P item h (suc n) arguments =
    next P (AllByRecursion P) (item arguments) (λ x left. then_parsed (parsed_items item n left) (λ others rest. Ok (x ∷ others, rest))) (h arguments) (λ x left p.
    next (AllByRecursion P) (AllByRecursion P) (parsed_items item n left) (λ others rest. Ok (x ∷ others, rest)) (items P item h n left) (λ others rest ps. (p, ps)))

list : {A : Type 0} (P : A → Type 0) (item : List Text → Parsed A) → ((arguments : List Text) → IfOk (item arguments) (λ x. P x.0))
    → (arguments : List Text) → IfOk (parsed_list item arguments) (λ xs. AllByRecursion P xs.0)
list P item h arguments = next (λ n. ⊤) (AllByRecursion P) (parsed_number arguments) (parsed_items item) (any (parsed_number arguments)) (λ n left p. items P item h n left)

either : {A : Type 0} (P : A → Type 0) (b : Bool) (x y : Parsed A) → IfOk x (λ z. P z.0) → IfOk y (λ z. P z.0) → IfOk (cond b x y) (λ z. P z.0)
either P true x y p q = p
either P false x y p q = q

-- ---- the texts
pub all-get : (p : Text → Bool) (texts : List Text) (k : ℕ) (text : Text) → list_all p texts ≡ true → slice_get texts k ≡ Some text → p text ≡ true
all-get p [] k text h e = cc
all-get p (x ∷ texts) zero text h e = let same : x ≡ text = cc (e) in sym (ap p same) ∙ (and_parts (p x) (list_all p texts) h).0
all-get p (x ∷ texts) (suc k) text h e = all-get p texts k text (and_parts (p x) (list_all p texts) h).1 e

module _ (inputs : List Text) where
  get-among : (texts : List Text) (k : ℕ) (text : Text) → slice_get texts k ≡ Some text → is_among texts text ≡ true
  get-among [] k text e = cc
  get-among (x ∷ texts) zero text e =
      let same : x ≡ text = cc (e) in
      or-left (bytes_eq text x) (is_among texts text) (ap (bytes_eq text) same ∙ bytes-self text)
  get-among (x ∷ texts) (suc k) text e = or-right (bytes_eq text x) (is_among texts text) (get-among texts k text e)

  abbrev IsOver : Outcome → Type 0
  IsOver o = are_among inputs o.texts ≡ true

  of-number : (n : Option ℕ) → IfOk (text_of_number inputs n) (λ text. is_among inputs text ≡ true)
  of-number None = tt
  of-number (Some k) =
      elim (slice_get inputs k) as (λ o. slice_get inputs k ≡ o → IfOk (text_or_fault o k) (λ text. is_among inputs text ≡ true)) [
        | None ↦ (λ e. tt)
        | Some text ↦ (λ e. get-among inputs k text e)
      ] refl

  of-argument : (argument : Text) → IfOk (parsed_text inputs argument) (λ text. is_among inputs text ≡ true)
  of-argument [] = tt
  of-argument (byte ∷ digits) =
      elim (byte == 64) as (λ b. IfOk (cond b (text_of_number inputs (number_of digits)) (Err Arguments)) (λ text. is_among inputs text ≡ true)) [
        | true ↦ of-number (number_of digits)
        | false ↦ tt
      ]

  of-read : (r : Result Text RunError) (rest : List Text) → IfOk r (λ text. is_among inputs text ≡ true) → IfOk (with_rest (read_of_text r) rest) (λ x. IsOver x.0)
  of-read (Ok text) rest h = ap (λ b. b && true) h
  of-read (Err e) rest h = tt

  of-sorted : (r : Result Text RunError) (rest : List Text) → IfOk r (λ text. is_among inputs text ≡ true) → IfOk (with_rest (sorted_of_text r) rest) (λ x. IsOver x.0)
  of-sorted (Ok text) rest h = ap (λ b. b && true) h
  of-sorted (Err e) rest h = tt

  of-sort : (arguments : List Text) → IfOk (parsed_sort inputs arguments) (λ x. IsOver x.0)
  of-sort [] = tt
  of-sort (argument ∷ arguments) = of-sorted (parsed_text inputs argument) arguments (of-argument argument)

  all-parts : (parts : List (Outcome × Position)) → AllByRecursion (λ p. IsOver p.0) parts → are_among inputs (texts_of_all parts) ≡ true
  all-parts [] h = refl
  all-parts (p ∷ parts) h = among-both inputs p.0.texts (texts_of_all parts) h.0 (all-parts parts h.1)

  all-inputs : (others : List (Text × Outcome)) → AllByRecursion (λ p. IsOver p.1) others → are_among inputs (input_texts others) ≡ true
  all-inputs [] h = refl
  all-inputs (p ∷ others) h = among-both inputs p.1.texts (input_texts others) h.0 (all-inputs others h.1)

  module _ (part : List Text → Parsed Outcome) (over : (arguments : List Text) → IfOk (part arguments) (λ x. IsOver x.0)) where
    same-texts : (f : Outcome → Outcome) → ((o : Outcome) → IsOver o → IsOver (f o)) → (rest : List Text) → IfOk (then_parsed (part rest) (λ o left. Ok (f o, left))) (λ x. IsOver x.0)
    same-texts f h rest = next IsOver IsOver (part rest) (λ o left. Ok (f o, left)) (over rest) (λ o left p. h o p)

    join-part : (offset : List Text → Parsed Position) (arguments : List Text) → IfOk (parsed_join_part part offset arguments) (λ x. IsOver x.0.0)
    join-part offset arguments =
        next IsOver (λ (p : Outcome × Position). IsOver p.0) (part arguments) (λ o after. then_parsed (offset after) (λ place left. Ok ((o, place), left))) (over arguments) (λ o after p.
        next (λ (x : Position). ⊤) (λ (p : Outcome × Position). IsOver p.0) (offset after) (λ place left. Ok ((o, place), left)) (any (offset after)) (λ place left q. p))

    of-join : (offset : List Text → Parsed Position) (rest : List Text) → IfOk (parsed_join part offset rest) (λ x. IsOver x.0)
    of-join offset rest =
        next (AllByRecursion (λ (p : Outcome × Position). IsOver p.0)) IsOver (parsed_list (parsed_join_part part offset) rest) (λ parts left. Ok (join_outcome parts, left))
        (list (λ (p : Outcome × Position). IsOver p.0) (parsed_join_part part offset) (join-part offset) rest) (λ parts left ps. all-parts parts ps)

    of-composition : (rest : List Text) → IfOk (parsed_composition part rest) (λ x. IsOver x.0)
    of-composition rest =
        next IsOver IsOver (part rest) (λ first after. then_parsed (part after) (λ second left. Ok (composition_outcome first second, left))) (over rest) (λ first after p.
        next IsOver IsOver (part after) (λ second left. Ok (composition_outcome first second, left)) (over after) (λ second left q. among-both inputs first.texts second.texts p q))

    input-part : (arguments : List Text) → IfOk (parsed_input_part part arguments) (λ x. IsOver x.0.1)
    input-part arguments =
        next (λ (path : Text). ⊤) (λ (p : Text × Outcome). IsOver p.1) (parsed_path arguments) (λ path after. then_parsed (part after) (λ o left. Ok ((path, o), left))) (any (parsed_path arguments)) (λ path after t.
        next IsOver (λ (p : Text × Outcome). IsOver p.1) (part after) (λ o left. Ok ((path, o), left)) (over after) (λ o left p. p))

    of-remapping : (rest : List Text) → IfOk (parsed_remapping part rest) (λ x. IsOver x.0)
    of-remapping rest =
        next IsOver IsOver (part rest) (λ first after. then_parsed (parsed_list (parsed_input_part part) after) (λ others left. Ok (remap_outcome first others, left))) (over rest) (λ first after p.
        next (AllByRecursion (λ (p : Text × Outcome). IsOver p.1)) IsOver (parsed_list (parsed_input_part part) after) (λ others left. Ok (remap_outcome first others, left))
        (list (λ (p : Text × Outcome). IsOver p.1) (parsed_input_part part) input-part after) (λ others left ps. among-both inputs first.texts (input_texts others) p (all-inputs others ps)))

    of-first : (argument : Text) (rest : List Text) → IfOk (parsed_by inputs part argument rest) (λ x. IsOver x.0)
    of-first argument rest =
        either IsOver (bytes_eq argument (codes "rewrite")) _ _ (same-texts rewrite_outcome (λ o p. p) rest)
        (either IsOver (bytes_eq argument (codes "root")) _ _ (same-texts root_outcome (λ o p. p) rest)
        (either IsOver (bytes_eq argument (codes "simplify")) _ _ (same-texts simplified_outcome (λ o p. p) rest)
        (either IsOver (bytes_eq argument (codes "join")) _ _ (of-join (parsed_beginning false) rest)
        (either IsOver (bytes_eq argument (codes "joinat")) _ _ (of-join (parsed_beginning true) rest)
        (either IsOver (bytes_eq argument (codes "compose")) _ _ (of-composition rest)
        (either IsOver (bytes_eq argument (codes "remap")) _ _ (of-remapping rest)
        (either IsOver (bytes_eq argument (codes "sort")) _ _ (of-sort rest)
        (of-read (parsed_text inputs argument) rest (of-argument argument)))))))))

  of-part : (levels : ℕ) (arguments : List Text) → IfOk (parsed_part inputs levels arguments) (λ x. IsOver x.0)
  of-part zero [] = tt
  of-part (suc levels) [] = tt
  of-part zero (argument ∷ rest) = tt
  of-part (suc levels) (argument ∷ rest) = of-first (parsed_part inputs levels) (of-part levels) argument rest

  pub plan_over : (arguments rest : List Text) (plan : Plan) → parsed_part inputs 64 arguments ≡ Ok (outcome_of plan, rest) → are_among inputs (outcome plan).texts ≡ true
  plan_over arguments rest plan e =
      let over : are_among inputs (outcome_of plan).texts ≡ true = subst (λ r. IfOk r (λ x. IsOver x.0)) e (of-part 64 arguments) in
      elim (nat_le (depth plan) 64) as (λ b. are_among inputs (cond b (outcome_of plan) (too_deep (outcome_of plan).texts)).texts ≡ true) [ true ↦ over | false ↦ over ]
