-- The plan of arguments, by its outcome. Arguments are read from the left, up to the first fault.
use Rattle.std.specs.Prelude.{ℕ, zero, suc, Bool, true, false, List, [], ◌∷◌, codes, slice_get}
use Rattle.std.specs.Prelude.{Option, Some, None, Result, Ok, Err, if◌then◌else◌, ◌==◌}
use Rattle.std.specs.Str.{bytes_eq}
use Rattle.oxc_sourcemap_parts.specs.Record.{Text}
use Rattle.oxc_sourcemap_tokens.specs.declared.position.Position.{Position}
use Rattle.oxc_sourcemap_join.specs.Joined.{position, at_line}
use Rattle.oxc_sourcemap_tokens.specs.declared.errors.plan_error.PlanError.TheVariants.{TooDeep}
use Rattle.oxc_sourcemap_plan.specs.declared.run_error.RunError.{RunError}
use Rattle.oxc_sourcemap_plan.specs.declared.run_error.RunError.TheVariants.{Plan, Arguments}
use Rattle.oxc_sourcemap_plan.specs.declared.run_error.RunError.TheVariants.{NoText}
use Rattle.oxc_sourcemap_plan.specs.Numbers.{number_of}
use Rattle.oxc_sourcemap_plan.specs.Outcome.{Outcome, read_outcome, rewrite_outcome, root_outcome}
use Rattle.oxc_sourcemap_plan.specs.Outcome.{sorted_outcome, simplified_outcome, join_outcome}
use Rattle.oxc_sourcemap_plan.specs.Outcome.{composition_outcome, remap_outcome}

-- what was read of the first arguments, and the arguments that are left
abbrev pub Parsed : Type 0 → Type 0
Parsed A = Result (A × List Text) RunError

-- the second step, if the first has no fault; else that fault
abbrev pub then_parsed : {A B : Type 0} → Parsed A → (A → List Text → Parsed B) → Parsed B
then_parsed (Ok read) next = next read.0 read.1
then_parsed (Err fault) next = Err fault

-- a number and the arguments after it, or the fault of a bad argument
abbrev pub number_or_fault : Option ℕ → List Text → Parsed ℕ
number_or_fault None arguments = Err Arguments
number_or_fault (Some n) arguments = Ok (n, arguments)

abbrev pub parsed_number : List Text → Parsed ℕ
parsed_number [] = Err Arguments
parsed_number (argument ∷ arguments) = number_or_fault (number_of argument) arguments

-- text `k`, or the fault of a missing one
abbrev pub text_or_fault : Option Text → ℕ → Result Text RunError
text_or_fault None k = Err (NoText k)
text_or_fault (Some text) k = Ok text

abbrev pub text_of_number : List Text → Option ℕ → Result Text RunError
text_of_number inputs None = Err Arguments
text_of_number inputs (Some k) = text_or_fault (slice_get inputs k) k

-- the text of an argument `@K`, where K is a number
abbrev pub parsed_text : List Text → Text → Result Text RunError
parsed_text inputs [] = Err Arguments
parsed_text inputs (byte ∷ digits) = if byte == 64 then text_of_number inputs (number_of digits) else Err Arguments

-- the outcome of reading a text
abbrev pub read_of_text : Result Text RunError → Result Outcome RunError
read_of_text (Err fault) = Err fault
read_of_text (Ok text) = Ok (read_outcome text)

-- an argument `@K`: read text K
abbrev pub parsed_input : List Text → Text → Result Outcome RunError
parsed_input inputs argument = read_of_text (parsed_text inputs argument)

-- what was read of one argument, and the arguments after it
abbrev pub with_rest : Result Outcome RunError → List Text → Parsed Outcome
with_rest (Ok o) arguments = Ok (o, arguments)
with_rest (Err fault) arguments = Err fault

-- the outcome of reading and sorting a text
abbrev pub sorted_of_text : Result Text RunError → Result Outcome RunError
sorted_of_text (Err fault) = Err fault
sorted_of_text (Ok text) = Ok (sorted_outcome text)

-- `sort @K`, after its first argument
abbrev pub parsed_sort : List Text → List Text → Parsed Outcome
parsed_sort inputs [] = Err Arguments
parsed_sort inputs (argument ∷ arguments) = with_rest (sorted_of_text (parsed_text inputs argument)) arguments

-- the position of a part of `join`: a line, and column 0
abbrev pub parsed_line : List Text → Parsed Position
parsed_line arguments = then_parsed (parsed_number arguments) (λ line left. Ok (at_line line, left))

-- the position of a part of `joinat`: a line and a column
abbrev pub parsed_position : List Text → Parsed Position
parsed_position arguments =
    then_parsed (parsed_number arguments) (λ line after. then_parsed (parsed_number after) (λ column left.
    Ok (position line column, left)))

-- the position of a part of a join: a line, and a column if it has one
abbrev pub parsed_beginning : Bool → List Text → Parsed Position
parsed_beginning false = parsed_line
parsed_beginning true = parsed_position

-- a part of a join, and its position after it
abbrev pub parsed_join_part : (List Text → Parsed Outcome) → (List Text → Parsed Position) → List Text → Parsed (Outcome × Position)
parsed_join_part part offset arguments =
    then_parsed (part arguments) (λ o after. then_parsed (offset after) (λ place left. Ok ((o, place), left)))

-- a path: any argument, taken as it is
abbrev pub parsed_path : List Text → Parsed Text
parsed_path [] = Err Arguments
parsed_path (argument ∷ arguments) = Ok (argument, arguments)

-- the path of an input of a remapping, and the input after it
abbrev pub parsed_input_part : (List Text → Parsed Outcome) → List Text → Parsed (Text × Outcome)
parsed_input_part part arguments =
    then_parsed (parsed_path arguments) (λ path after. then_parsed (part after) (λ o left. Ok ((path, o), left)))

-- so many items, one after the other
abbrev pub parsed_items : {A : Type 0} → (List Text → Parsed A) → ℕ → List Text → Parsed (List A)
parsed_items item zero arguments = Ok ([], arguments)
parsed_items item (suc n) arguments =
    then_parsed (item arguments) (λ x left. then_parsed (parsed_items item n left) (λ others rest. Ok (x ∷ others, rest)))

-- N, and N items after it
abbrev pub parsed_list : {A : Type 0} → (List Text → Parsed A) → List Text → Parsed (List A)
parsed_list item arguments = then_parsed (parsed_number arguments) (parsed_items item)

-- `rewrite P`, after its first argument; and so the others
abbrev pub parsed_rewrite : (List Text → Parsed Outcome) → List Text → Parsed Outcome
parsed_rewrite part rest = then_parsed (part rest) (λ o left. Ok (rewrite_outcome o, left))

-- `root P`
abbrev pub parsed_root : (List Text → Parsed Outcome) → List Text → Parsed Outcome
parsed_root part rest = then_parsed (part rest) (λ o left. Ok (root_outcome o, left))

-- `simplify P`
abbrev pub parsed_simplification : (List Text → Parsed Outcome) → List Text → Parsed Outcome
parsed_simplification part rest = then_parsed (part rest) (λ o left. Ok (simplified_outcome o, left))

-- N, and N times a part with its offset: the rest of `join` and of `joinat`
abbrev pub parsed_join : (List Text → Parsed Outcome) → (List Text → Parsed Position) → List Text → Parsed Outcome
parsed_join part offset rest = then_parsed (parsed_list (parsed_join_part part offset) rest) (λ parts left. Ok (join_outcome parts, left))

-- `compose P P`
abbrev pub parsed_composition : (List Text → Parsed Outcome) → List Text → Parsed Outcome
parsed_composition part rest =
    then_parsed (part rest) (λ first after. then_parsed (part after) (λ second left. Ok (composition_outcome first second, left)))

-- `remap P N`, and N times a path and a part
abbrev pub parsed_remapping : (List Text → Parsed Outcome) → List Text → Parsed Outcome
parsed_remapping part rest =
    then_parsed (part rest) (λ first after. then_parsed (parsed_list (parsed_input_part part) after) (λ inputs left.
    Ok (remap_outcome first inputs, left)))

-- a plan by its first argument and those after it, if `part` reads the parts of a plan
abbrev pub parsed_by : List Text → (List Text → Parsed Outcome) → Text → List Text → Parsed Outcome
parsed_by inputs part argument rest =
    if bytes_eq argument (codes "rewrite") then parsed_rewrite part rest
    else if bytes_eq argument (codes "root") then parsed_root part rest
    else if bytes_eq argument (codes "simplify") then parsed_simplification part rest
    else if bytes_eq argument (codes "join") then parsed_join part (parsed_beginning false) rest
    else if bytes_eq argument (codes "joinat") then parsed_join part (parsed_beginning true) rest
    else if bytes_eq argument (codes "compose") then parsed_composition part rest
    else if bytes_eq argument (codes "remap") then parsed_remapping part rest
    else if bytes_eq argument (codes "sort") then parsed_sort inputs rest
    else with_rest (parsed_input inputs argument) rest

-- A part that may be this many levels deep. If no level is left, any argument is too deep.
abbrev pub parsed_part : List Text → ℕ → List Text → Parsed Outcome
parsed_part inputs levels [] = Err Arguments
parsed_part inputs zero (argument ∷ rest) = Err (Plan TooDeep)
parsed_part inputs (suc levels) (argument ∷ rest) = parsed_by inputs (parsed_part inputs levels) argument rest

-- an outcome, if no arguments are left over
abbrev pub whole : Parsed Outcome → Result Outcome RunError
whole (Err fault) = Err fault
whole (Ok (o, [])) = Ok o
whole (Ok (o, argument ∷ arguments)) = Err Arguments

-- The outcome of the plan of these arguments, over these inputs. It does not tell apart two plans of one outcome.
abbrev pub parsed_plan : List Text → List Text → Result Outcome RunError
parsed_plan inputs arguments = whole (parsed_part inputs 64 arguments)
