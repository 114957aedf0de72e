-- The arguments after the program's name, and their command.
use Rattle.std.specs.Prelude.{ℕ, Bool, true, false, List, [], ◌∷◌, codes, Option, Some, None}
use Rattle.std.specs.Prelude.{if◌then◌else◌}
use Rattle.std.specs.Option.{option_map, option_zip}
use Rattle.std.specs.Str.{bytes_eq}
use Rattle.oxc_sourcemap_plan.specs.Numbers.{number_of}
use Rattle.smap_run.specs.Request.{Request, Mappings, Normalise, Plan, Trace, Url}

-- the numbers of exactly two arguments
abbrev pub two_numbers : List (List ℕ) → Option (ℕ × ℕ)
two_numbers (a ∷ b ∷ []) = option_zip (number_of a) (number_of b)
two_numbers [] = None
two_numbers (a ∷ []) = None
two_numbers (a ∷ b ∷ more ∷ arguments) = None

-- a request, if no arguments follow its name
abbrev pub without_arguments : Request → List (List ℕ) → Option Request
without_arguments request [] = Some request
without_arguments request (argument ∷ arguments) = None

-- the request of this name, with these arguments after it
abbrev pub parsed_command : List ℕ → List (List ℕ) → Option Request
parsed_command name arguments =
    if bytes_eq name (codes "mappings") then option_map (λ n. Mappings n.0 n.1) (two_numbers arguments)
    else if bytes_eq name (codes "normalise") then without_arguments Normalise arguments
    else if bytes_eq name (codes "url") then without_arguments Url arguments
    else if bytes_eq name (codes "trace") then option_map (λ n. Trace n.0 n.1) (two_numbers arguments)
    else None

-- the request of some arguments, the first of which names it; the arguments of a plan are kept as they are
abbrev pub command_of : List (List ℕ) → Option Request
command_of [] = None
command_of (name ∷ arguments) = if bytes_eq name (codes "plan") then Some (Plan arguments) else parsed_command name arguments

-- whether the first argument is `--where`, and the arguments after it
abbrev pub taken_where : List (List ℕ) → Bool × List (List ℕ)
taken_where [] = (false, [])
taken_where (name ∷ arguments) = if bytes_eq name (codes "--where") then (true, arguments) else (false, name ∷ arguments)
