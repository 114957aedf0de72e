-- Reading arguments, step by step.
use Rattle.std.proofs.Common.{◌≡◌, ◌≢◌, ℕ, zero, suc, ◌+◌, ◌-◌, ◌<◌, ◌≤◌, String, string_bytes}
use Rattle.std.proofs.Common.{length, true, false, cond, ◌==◌, List, [], ◌∷◌, ◌++◌, map, codes}
use Rattle.std.proofs.Common.{refl, sym, ap, ◌∙◌, arith, Some, None, Ok, Err, bytes_eq}
use Rattle.oxc_sourcemap_parts.specs.Record.{Text}
use Rattle.std.specs.declared.alloc.Global.{Global}
use Rattle.std.specs.Cmp.Lexicographic.{bytes_decides}
use Rattle.std.proofs.lemmas.Bool.{false_from_ne_true}
use Rattle.std.proofs.lemmas.List.{append_assoc, append-nil}
use Rattle.std.specs.List.{slice_get}
use Rattle.std.proofs.lemmas.Bool.Decides.{nat_tests}
use Rattle.oxc_sourcemap_plan.specs.Numbers.{number_of}
use Rattle.oxc_sourcemap_plan.specs.Depth.{deepest}
use Rattle.oxc_sourcemap_tokens.specs.declared.position.Position.{Position}
use Rattle.oxc_sourcemap_plan.specs.declared.run_error.RunError.{RunError}
use Rattle.oxc_sourcemap_plan.specs.declared.run_error.RunError.TheVariants.{Arguments, NoText}
use Rattle.oxc_sourcemap_plan.specs.Outcome.{Outcome, rewrite_outcome, root_outcome}
use Rattle.oxc_sourcemap_plan.specs.Outcome.{simplified_outcome, join_outcome, composition_outcome}
use Rattle.oxc_sourcemap_plan.specs.Outcome.{remap_outcome}
use Rattle.oxc_sourcemap_plan.specs.PlanArguments.{Parsed, whole, then_parsed, parsed_number}
use Rattle.oxc_sourcemap_plan.specs.PlanArguments.{parsed_line, parsed_position, text_or_fault}
use Rattle.oxc_sourcemap_plan.specs.PlanArguments.{text_of_number, parsed_text, parsed_input}
use Rattle.oxc_sourcemap_plan.specs.PlanArguments.{parsed_sort, with_rest, parsed_join_part}
use Rattle.oxc_sourcemap_plan.specs.PlanArguments.{parsed_path, parsed_input_part, parsed_items}
use Rattle.oxc_sourcemap_plan.specs.PlanArguments.{parsed_list, parsed_join, parsed_remapping}
use Rattle.oxc_sourcemap_plan.specs.PlanArguments.{parsed_by, parsed_part}

pub part-named : (inputs : List Text) (room : ℕ) (argument : Text) (arguments : List Text) → room ≢ 0 → parsed_part inputs room (argument ∷ arguments) ≡ parsed_by inputs (parsed_part inputs (room - 1)) argument arguments
part-named inputs zero argument arguments n = absurd (n refl)
part-named inputs (suc room) argument arguments n = let e : suc room - 1 ≡ room = omega arith in ap (λ r. parsed_by inputs (parsed_part inputs r) argument arguments) (sym e)

-- ---- the input with a number
pub text-read : (inputs : List Text) (argument digits : Text) (k : ℕ) (text : Text) → argument ≡ 64 ∷ digits → number_of digits ≡ Some k → slice_get inputs k ≡ Some text → parsed_text inputs argument ≡ Ok text
text-read inputs argument digits k text e n g = ap (parsed_text inputs) e ∙ ap (text_of_number inputs) n ∙ ap (λ t. text_or_fault t k) g

pub text-missing : (inputs : List Text) (argument digits : Text) (k : ℕ) → argument ≡ 64 ∷ digits → number_of digits ≡ Some k → slice_get inputs k ≡ None → parsed_text inputs argument ≡ Err (NoText k)
text-missing inputs argument digits k e n g = ap (parsed_text inputs) e ∙ ap (text_of_number inputs) n ∙ ap (λ t. text_or_fault t k) g

pub text-bad : (inputs : List Text) (argument : Text) → ((digits : Text) → argument ≢ 64 ∷ digits) → parsed_text inputs argument ≡ Err Arguments
text-bad inputs [] n = refl
text-bad inputs (byte ∷ digits) n =
    elim (byte == 64) as (λ b. byte == 64 ≡ b → cond b (text_of_number inputs (number_of digits)) (Err Arguments) ≡ Err Arguments) [
      | true ↦ (λ t. let e : byte ≡ 64 = grind (arith, nat_tests) in absurd (n digits (ap (λ b. b ∷ digits) e)))
      | false ↦ (λ t. refl)
    ] refl

-- ---- the first argument
pub named-start : (inputs : List Text) (room : ℕ) (arguments : List (String Global)) (argument : String Global) (after : List (String Global)) (bytes : Text) → (room ≡ 0 → ⊥) → arguments ≡ argument ∷ after → bytes ≡ string_bytes argument
    → parsed_part inputs room (map string_bytes arguments) ≡ parsed_by inputs (parsed_part inputs (room - 1)) bytes (map string_bytes after)
named-start inputs room arguments argument after bytes n e b =
    ap (λ ws. parsed_part inputs room (map string_bytes ws)) e ∙ ap (λ w. parsed_part inputs room (w ∷ map string_bytes after)) (sym b) ∙ part-named inputs room bytes (map string_bytes after) n

differ : (a b : Text) → (a ≡ b → ⊥) → bytes_eq a b ≡ false
differ a b n = false_from_ne_true (bytes_eq a b) (λ t. n ((bytes_decides a b).0 t))

module _ (inputs : List Text) (part : List Text → Parsed Outcome) (argument : Text) (arguments : List Text) where
  pub named-rewrite : argument ≡ codes "rewrite" → parsed_by inputs part argument arguments ≡ then_parsed (part arguments) (λ o left. Ok (rewrite_outcome o, left))
  named-rewrite e = ap (λ w. parsed_by inputs part w arguments) e

  pub named-join : argument ≡ codes "join" → parsed_by inputs part argument arguments ≡ parsed_join part parsed_line arguments
  named-join e = ap (λ w. parsed_by inputs part w arguments) e

  pub named-join_at : argument ≡ codes "joinat" → parsed_by inputs part argument arguments ≡ parsed_join part parsed_position arguments
  named-join_at e = ap (λ w. parsed_by inputs part w arguments) e

  pub named-compose : argument ≡ codes "compose" → parsed_by inputs part argument arguments ≡ then_parsed (part arguments) (λ first after. then_parsed (part after) (λ second left. Ok (composition_outcome first second, left)))
  named-compose e = ap (λ w. parsed_by inputs part w arguments) e

  pub named-root : argument ≡ codes "root" → parsed_by inputs part argument arguments ≡ then_parsed (part arguments) (λ o left. Ok (root_outcome o, left))
  named-root e = ap (λ w. parsed_by inputs part w arguments) e

  pub named-simplify : argument ≡ codes "simplify" → parsed_by inputs part argument arguments ≡ then_parsed (part arguments) (λ o left. Ok (simplified_outcome o, left))
  named-simplify e = ap (λ w. parsed_by inputs part w arguments) e

  pub named-remap : argument ≡ codes "remap" → parsed_by inputs part argument arguments ≡ parsed_remapping part arguments
  named-remap e = ap (λ w. parsed_by inputs part w arguments) e

  pub named-sort : argument ≡ codes "sort" → parsed_by inputs part argument arguments ≡ parsed_sort inputs arguments
  named-sort e = ap (λ w. parsed_by inputs part w arguments) e

  pub named-text : (argument ≡ codes "rewrite" → ⊥) → (argument ≡ codes "root" → ⊥) → (argument ≡ codes "simplify" → ⊥) → (argument ≡ codes "join" → ⊥) → (argument ≡ codes "joinat" → ⊥) → (argument ≡ codes "compose" → ⊥) → (argument ≡ codes "remap" → ⊥) → (argument ≡ codes "sort" → ⊥)
      → parsed_by inputs part argument arguments ≡ with_rest (parsed_input inputs argument) arguments
  named-text a b s c d e f g =
      rw (differ argument (codes "rewrite") a, differ argument (codes "root") b, differ argument (codes "simplify") s, differ argument (codes "join") c, differ argument (codes "joinat") d, differ argument (codes "compose") e, differ argument (codes "remap") f, differ argument (codes "sort") g) refl

-- ---- items, as far as they have come
module _ {A : Type 0} (item : List Text → Parsed A) where
  -- what is read of the items that are left, after those that are done
  abbrev pub left_after : List A → ℕ → List Text → Parsed (List A)
  left_after done n arguments = then_parsed (parsed_items item n arguments) (λ others rest. Ok (done ++ others, rest))

  next-item : (count i : ℕ) (arguments : List Text) → i < count → parsed_items item (count - i) arguments ≡ parsed_items item (suc (count - (i + 1))) arguments
  next-item count i arguments l = let e : count - i ≡ suc (count - (i + 1)) = omega arith in ap (λ n. parsed_items item n arguments) e

  pushed : (done : List A) (x : A) (others : Parsed (List A)) → then_parsed (then_parsed others (λ xs rest. Ok (x ∷ xs, rest))) (λ xs rest. Ok (done ++ xs, rest)) ≡ then_parsed others (λ xs rest. Ok ((done ++ x ∷ []) ++ xs, rest))
  pushed done x (Ok r) = ap (λ xs. Ok (xs, r.1)) (sym (append_assoc done (x ∷ []) r.0))
  pushed done x (Err e) = refl

  after-item : (done : List A) (count i : ℕ) (arguments : List Text) → i < count → (read : Parsed A) → item arguments ≡ read
      → left_after done (count - i) arguments ≡ then_parsed (then_parsed read (λ x left. then_parsed (parsed_items item (count - (i + 1)) left) (λ others rest. Ok (x ∷ others, rest)))) (λ others rest. Ok (done ++ others, rest))
  after-item done count i arguments l read e =
      ap (λ r. then_parsed r (λ others rest. Ok (done ++ others, rest)))
      (next-item count i arguments l ∙ ap (λ r. then_parsed r (λ x left. then_parsed (parsed_items item (count - (i + 1)) left) (λ others rest. Ok (x ∷ others, rest)))) e)

  -- an item with a fault
  pub item-error : (done : List A) (count i : ℕ) (arguments : List Text) (e : RunError) → i < count → item arguments ≡ Err e → left_after done (count - i) arguments ≡ Err e
  item-error done count i arguments e l h = after-item done count i arguments l (Err e) h

  -- one more item that was read
  pub item-more : (done : List A) (count i : ℕ) (arguments left : List Text) (x : A) → i < count → item arguments ≡ Ok (x, left) → left_after done (count - i) arguments ≡ left_after (done ++ x ∷ []) (count - (i + 1)) left
  item-more done count i arguments left x l h = after-item done count i arguments l (Ok (x, left)) h ∙ pushed done x (parsed_items item (count - (i + 1)) left)

  -- all items were read
  pub items-end : (done : List A) (count i : ℕ) (arguments : List Text) → count ≤ i → left_after done (count - i) arguments ≡ Ok (done, arguments)
  items-end done count i arguments l =
      let none : count - i ≡ 0 = omega arith in
      ap (λ k. left_after done k arguments) none ∙ ap (λ xs. Ok (xs, arguments)) (append-nil done)

  -- a list, after its items were read
  pub list-read : (arguments after : List Text) (n : ℕ) (read : Parsed (List A)) → parsed_number arguments ≡ Ok (n, after) → parsed_items item n after ≡ read → parsed_list item arguments ≡ read
  list-read arguments after n read e f = ap (λ r. then_parsed r (parsed_items item)) e ∙ f

-- ---- the parts of a join and of a remapping
module _ (part : List Text → Parsed Outcome) where
  pub placed-error : (offset : List Text → Parsed Position) (arguments : List Text) (e : RunError) → part arguments ≡ Err e → parsed_join_part part offset arguments ≡ Err e
  placed-error offset arguments e h = ap (λ r. then_parsed r (λ o after. then_parsed (offset after) (λ place left. Ok ((o, place), left)))) h

  pub placed : (offset : List Text → Parsed Position) (arguments after : List Text) (o : Outcome) (place : Parsed Position) → part arguments ≡ Ok (o, after) → offset after ≡ place
      → parsed_join_part part offset arguments ≡ then_parsed place (λ place left. Ok ((o, place), left))
  placed offset arguments after o place h k =
      ap (λ r. then_parsed r (λ o after. then_parsed (offset after) (λ place left. Ok ((o, place), left)))) h
      ∙ ap (λ r. then_parsed r (λ place left. Ok ((o, place), left))) k

  pub join-read : (offset : List Text → Parsed Position) (arguments : List Text) (read : Parsed (List (Outcome × Position))) → parsed_list (parsed_join_part part offset) arguments ≡ read
      → parsed_join part offset arguments ≡ then_parsed read (λ parts left. Ok (join_outcome parts, left))
  join-read offset arguments read e = ap (λ r. then_parsed r (λ parts left. Ok (join_outcome parts, left))) e

  pub path-error : (arguments : List Text) (e : RunError) → parsed_path arguments ≡ Err e → parsed_input_part part arguments ≡ Err e
  path-error arguments e h = ap (λ r. then_parsed r (λ path after. then_parsed (part after) (λ o left. Ok ((path, o), left)))) h

  pub with_path : (arguments after : List Text) (path : Text) (read : Parsed Outcome) → parsed_path arguments ≡ Ok (path, after) → part after ≡ read
      → parsed_input_part part arguments ≡ then_parsed read (λ o left. Ok ((path, o), left))
  with_path arguments after path read h k =
      ap (λ r. then_parsed r (λ path after. then_parsed (part after) (λ o left. Ok ((path, o), left)))) h
      ∙ ap (λ r. then_parsed r (λ o left. Ok ((path, o), left))) k

  pub first-error : (arguments : List Text) (e : RunError) → part arguments ≡ Err e → parsed_remapping part arguments ≡ Err e
  first-error arguments e h = ap (λ r. then_parsed r (λ first after. then_parsed (parsed_list (parsed_input_part part) after) (λ inputs left. Ok (remap_outcome first inputs, left)))) h

  pub remapping-read : (arguments after : List Text) (first : Outcome) (read : Parsed (List (Text × Outcome))) → part arguments ≡ Ok (first, after) → parsed_list (parsed_input_part part) after ≡ read
      → parsed_remapping part arguments ≡ then_parsed read (λ inputs left. Ok (remap_outcome first inputs, left))
  remapping-read arguments after first read h k =
      ap (λ r. then_parsed r (λ first after. then_parsed (parsed_list (parsed_input_part part) after) (λ inputs left. Ok (remap_outcome first inputs, left)))) h
      ∙ ap (λ r. then_parsed r (λ inputs left. Ok (remap_outcome first inputs, left))) k

pub deepest-pushed : (parts : List ℕ) (p room : ℕ) → deepest parts ≤ room → p ≤ room → deepest (parts ++ p ∷ []) ≤ room
deepest-pushed [] p room h k = omega arith
deepest-pushed (q ∷ parts) p room h k =
    let below : deepest parts ≤ room = omega arith in
    let i = deepest-pushed parts p room below k in
    omega (arith, i, h)

-- arguments that are left over
pub whole-left : (o : Outcome) (arguments : List (String Global)) → (length arguments ≡ 0 → ⊥) → whole (Ok (o, map string_bytes arguments)) ≡ Err Arguments
whole-left o [] n = absurd (n refl)
whole-left o (argument ∷ arguments) n = refl
