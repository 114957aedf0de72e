-- No fault of a plan's arguments is a failed read or write.
use Rattle.std.proofs.Common.{◌≡◌, ℕ, zero, suc, Bool, true, false, cond, ◌==◌, List, [], ◌∷◌}
use Rattle.std.proofs.Common.{refl, codes, bytes_eq, Option, Some, None, Result, Ok, Err}
use Rattle.std.specs.List.{slice_get}
use Rattle.std.specs.Result.{IfErr}
use Rattle.oxc_sourcemap_parts.specs.Record.{Text}
use Rattle.oxc_sourcemap_plan.specs.declared.run_error.RunError.{RunError}
use Rattle.oxc_sourcemap_plan.specs.declared.run_error.RunError.TheVariants.{Plan, Read, Write}
use Rattle.oxc_sourcemap_plan.specs.declared.run_error.RunError.TheVariants.{Utf8, Arguments}
use Rattle.oxc_sourcemap_plan.specs.declared.run_error.RunError.TheVariants.{NoText}
use Rattle.oxc_sourcemap_plan.specs.Numbers.{number_of}
use Rattle.oxc_sourcemap_plan.specs.Outcome.{Outcome}
use Rattle.oxc_sourcemap_plan.specs.PlanArguments.{Parsed, then_parsed, number_or_fault}
use Rattle.oxc_sourcemap_plan.specs.PlanArguments.{parsed_number, text_or_fault, text_of_number}
use Rattle.oxc_sourcemap_plan.specs.PlanArguments.{parsed_input, with_rest, parsed_beginning}
use Rattle.oxc_sourcemap_plan.specs.PlanArguments.{parsed_text, read_of_text, sorted_of_text}
use Rattle.oxc_sourcemap_plan.specs.PlanArguments.{parsed_sort}
use Rattle.oxc_sourcemap_plan.specs.PlanArguments.{parsed_join_part, parsed_path, parsed_input_part}
use Rattle.oxc_sourcemap_plan.specs.PlanArguments.{parsed_items, parsed_list, parsed_rewrite}
use Rattle.oxc_sourcemap_plan.specs.PlanArguments.{parsed_root, parsed_join, parsed_composition}
use Rattle.oxc_sourcemap_plan.specs.PlanArguments.{parsed_remapping, parsed_by, parsed_part, whole}
use Rattle.oxc_sourcemap_plan.specs.PlanArguments.{parsed_plan, parsed_simplification}

-- a failed read or write
abbrev pub is_of_port : RunError → Bool
is_of_port (Plan error) = false
is_of_port Read = true
is_of_port Write = true
is_of_port Utf8 = false
is_of_port Arguments = false
is_of_port (NoText k) = false

-- the error, if there is one, is no failed read or write
abbrev pub IsNotOfPort : {A : Type 0} → Result A RunError → Type 0
IsNotOfPort r = IfErr r (λ e. is_of_port e ≡ false)

-- ---- the steps of reading
after : {A B : Type 0} (r : Parsed A) (next : A → List Text → Parsed B) → IsNotOfPort r → ((a : A) (left : List Text) → IsNotOfPort (next a left)) → IsNotOfPort (then_parsed r next)
after (Ok read) next h k = k read.0 read.1
after (Err fault) next h k = h

either : {A : Type 0} (b : Bool) (r s : Result A RunError) → IsNotOfPort r → IsNotOfPort s → IsNotOfPort (cond b r s)
either true r s h k = h
either false r s h k = k

number_or : (o : Option ℕ) (arguments : List Text) → IsNotOfPort (number_or_fault o arguments)
number_or None arguments = refl
number_or (Some n) arguments = tt

number : (arguments : List Text) → IsNotOfPort (parsed_number arguments)
number [] = refl
number (argument ∷ arguments) = number_or (number_of argument) arguments

beginning : (has_column : Bool) (arguments : List Text) → IsNotOfPort (parsed_beginning has_column arguments)
beginning false arguments = after (parsed_number arguments) _ (number arguments) (λ line left. tt)
beginning true arguments =
    after (parsed_number arguments) _ (number arguments) (λ line more. after (parsed_number more) _ (number more) (λ column left. tt))

-- ---- an input
text_or : (o : Option Text) (k : ℕ) → IsNotOfPort (text_or_fault o k)
text_or None k = refl
text_or (Some text) k = tt

text_of : (inputs : List Text) (o : Option ℕ) → IsNotOfPort (text_of_number inputs o)
text_of inputs None = refl
text_of inputs (Some k) = text_or (slice_get inputs k) k

text : (inputs : List Text) (argument : Text) → IsNotOfPort (parsed_text inputs argument)
text inputs [] = refl
text inputs (byte ∷ digits) = either (byte == 64) _ _ (text_of inputs (number_of digits)) refl

of_read : (r : Result Text RunError) → IsNotOfPort r → IsNotOfPort (read_of_text r)
of_read (Ok t) h = tt
of_read (Err fault) h = h

of_sort : (r : Result Text RunError) → IsNotOfPort r → IsNotOfPort (sorted_of_text r)
of_sort (Ok t) h = tt
of_sort (Err fault) h = h

input : (inputs : List Text) (argument : Text) → IsNotOfPort (parsed_input inputs argument)
input inputs argument = of_read (parsed_text inputs argument) (text inputs argument)

left_over : (r : Result Outcome RunError) (arguments : List Text) → IsNotOfPort r → IsNotOfPort (with_rest r arguments)
left_over (Ok o) arguments h = tt
left_over (Err fault) arguments h = h

sort : (inputs : List Text) (arguments : List Text) → IsNotOfPort (parsed_sort inputs arguments)
sort inputs [] = refl
sort inputs (argument ∷ arguments) =
    left_over (sorted_of_text (parsed_text inputs argument)) arguments (of_sort (parsed_text inputs argument) (text inputs argument))

-- ---- a path, and lists
path : (arguments : List Text) → IsNotOfPort (parsed_path arguments)
path [] = refl
path (argument ∷ arguments) = tt

items : {A : Type 0} (item : List Text → Parsed A) → ((arguments : List Text) → IsNotOfPort (item arguments)) → (n : ℕ) (arguments : List Text) → IsNotOfPort (parsed_items item n arguments)
items item h zero arguments = tt
items item h (suc n) arguments = after (item arguments) _ (h arguments) (λ x left. after (parsed_items item n left) _ (items item h n left) (λ others rest. tt))

list : {A : Type 0} (item : List Text → Parsed A) → ((arguments : List Text) → IsNotOfPort (item arguments)) → (arguments : List Text) → IsNotOfPort (parsed_list item arguments)
list item h arguments = after (parsed_number arguments) (parsed_items item) (number arguments) (items item h)

-- ---- plans, if their parts are read like this
module _ (part : List Text → Parsed Outcome) (h : (arguments : List Text) → IsNotOfPort (part arguments)) where
  placed : (has_column : Bool) (arguments : List Text) → IsNotOfPort (parsed_join_part part (parsed_beginning has_column) arguments)
  placed has_column arguments =
      after (part arguments) _ (h arguments) (λ o more. after (parsed_beginning has_column more) _ (beginning has_column more) (λ place left. tt))

  join : (has_column : Bool) (arguments : List Text) → IsNotOfPort (parsed_join part (parsed_beginning has_column) arguments)
  join has_column arguments = after (parsed_list (parsed_join_part part (parsed_beginning has_column)) arguments) _ (list _ (placed has_column) arguments) (λ os left. tt)

  input_part : (arguments : List Text) → IsNotOfPort (parsed_input_part part arguments)
  input_part arguments = after (parsed_path arguments) _ (path arguments) (λ p more. after (part more) _ (h more) (λ o left. tt))

  remapping : (arguments : List Text) → IsNotOfPort (parsed_remapping part arguments)
  remapping arguments = after (part arguments) _ (h arguments) (λ first more. after (parsed_list (parsed_input_part part) more) _ (list _ input_part more) (λ os left. tt))

  root : (arguments : List Text) → IsNotOfPort (parsed_root part arguments)
  root arguments = after (part arguments) _ (h arguments) (λ o left. tt)

  simplification : (arguments : List Text) → IsNotOfPort (parsed_simplification part arguments)
  simplification arguments = after (part arguments) _ (h arguments) (λ o left. tt)

  rewrite : (arguments : List Text) → IsNotOfPort (parsed_rewrite part arguments)
  rewrite arguments = after (part arguments) _ (h arguments) (λ o left. tt)

  composition : (arguments : List Text) → IsNotOfPort (parsed_composition part arguments)
  composition arguments = after (part arguments) _ (h arguments) (λ first more. after (part more) _ (h more) (λ second left. tt))

  by_argument : (inputs : List Text) (argument : Text) (rest : List Text) → IsNotOfPort (parsed_by inputs part argument rest)
  by_argument inputs argument rest =
      either (bytes_eq argument (codes "rewrite")) _ _ (rewrite rest)
      (either (bytes_eq argument (codes "root")) _ _ (root rest)
      (either (bytes_eq argument (codes "simplify")) _ _ (simplification rest)
      (either (bytes_eq argument (codes "join")) _ _ (join false rest)
      (either (bytes_eq argument (codes "joinat")) _ _ (join true rest)
      (either (bytes_eq argument (codes "compose")) _ _ (composition rest)
      (either (bytes_eq argument (codes "remap")) _ _ (remapping rest)
      (either (bytes_eq argument (codes "sort")) _ _ (sort inputs rest) (left_over (parsed_input inputs argument) rest (input inputs argument)))))))))

part : (inputs : List Text) (levels : ℕ) (arguments : List Text) → IsNotOfPort (parsed_part inputs levels arguments)
part inputs zero [] = refl
part inputs (suc levels) [] = refl
part inputs zero (argument ∷ rest) = refl
part inputs (suc levels) (argument ∷ rest) = by_argument (parsed_part inputs levels) (part inputs levels) inputs argument rest

all : (r : Parsed Outcome) → IsNotOfPort r → IsNotOfPort (whole r)
all (Err fault) h = h
all (Ok (o, [])) h = tt
all (Ok (o, argument ∷ arguments)) h = refl

pub plan_not_of_port : (inputs arguments : List Text) → IsNotOfPort (parsed_plan inputs arguments)
plan_not_of_port inputs arguments = all (parsed_part inputs 64 arguments) (part inputs 64 arguments)
