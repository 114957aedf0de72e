-- Worked examples of the words and texts of plans, computed by the definitions themselves.
use Rattle.std.specs.Prelude.{◌≡◌, refl, ℕ, zero, suc, length, List, [], ◌∷◌, codes, Some, None}
use Rattle.std.specs.Prelude.{Err}
use Rattle.oxc_sourcemap_parts.specs.Record.{Text}
use Rattle.oxc_sourcemap_tokens.specs.declared.errors.plan_error.PlanError.TheVariants.{TooDeep}
use Rattle.oxc_sourcemap_plan.specs.declared.run_error.RunError.TheVariants.{Plan, Arguments}
use Rattle.oxc_sourcemap_plan.specs.declared.run_error.RunError.TheVariants.{NoText}
use Rattle.oxc_sourcemap_plan.specs.Numbers.{number_of}
use Rattle.oxc_sourcemap_plan.specs.PlanInputs.{inputs_of}
use Rattle.oxc_sourcemap_plan.specs.PlanArguments.{parsed_plan}

-- so many times `rewrite`, before these arguments
abbrev rewrites : ℕ → List Text → List Text
rewrites zero arguments = arguments
rewrites (suc n) arguments = codes "rewrite" ∷ rewrites n arguments

abbrev one_text : List Text
one_text = codes "{}" ∷ []

-- a part that begins at depth 65 is too deep, whatever its argument
too-deep : parsed_plan one_text (rewrites 64 (codes "@9" ∷ [])) ≡ Err (Plan TooDeep)
too-deep = refl

too-deep-bad-argument : parsed_plan one_text (rewrites 63 (codes "join" ∷ codes "1" ∷ codes "part" ∷ [])) ≡ Err (Plan TooDeep)
too-deep-bad-argument = refl

-- a part that begins at depth 64 is not too deep
no-text : parsed_plan one_text (rewrites 63 (codes "@9" ∷ [])) ≡ Err (NoText 9)
no-text = refl

-- a missing argument is bad arguments at any depth
no-argument : parsed_plan one_text [] ≡ Err Arguments
no-argument = refl

no-argument-at-65 : parsed_plan one_text (rewrites 64 []) ≡ Err Arguments
no-argument-at-65 = refl

-- a missing text is reported before an argument that is left over
no-text-first : parsed_plan one_text (codes "@1" ∷ codes "@0" ∷ []) ≡ Err (NoText 1)
no-text-first = refl

left-over : parsed_plan one_text (codes "join" ∷ codes "0" ∷ codes "0" ∷ []) ≡ Err Arguments
left-over = refl

-- a path is any argument, also one that is a word of plans
path-of-a-word : parsed_plan one_text (codes "remap" ∷ codes "@0" ∷ codes "1" ∷ codes "join" ∷ codes "@9" ∷ []) ≡ Err (NoText 9)
path-of-a-word = refl

path-of-an-input : parsed_plan one_text (codes "remap" ∷ codes "@0" ∷ codes "1" ∷ codes "@5" ∷ codes "@9" ∷ []) ≡ Err (NoText 9)
path-of-an-input = refl

no-path : parsed_plan one_text (codes "remap" ∷ codes "@0" ∷ codes "1" ∷ []) ≡ Err Arguments
no-path = refl

-- numbers have no sign, and are at most 4294967295
zeros : number_of (codes "00") ≡ Some 0
zeros = refl

signed : number_of (codes "+1") ≡ None
signed = refl

largest : number_of (codes "4294967295") ≡ Some 4294967295
largest = refl

too-large : number_of (codes "4294967296") ≡ None
too-large = refl

no-digits : number_of [] ≡ None
no-digits = refl

-- texts are separated by lines of three dashes alone
empty-input : inputs_of [] ≡ [] ∷ []
empty-input = refl

only-dashes : inputs_of (codes "---") ≡ [] ∷ [] ∷ []
only-dashes = refl

dashes-last : inputs_of (codes "a\n---\n") ≡ codes "a" ∷ [] ∷ []
dashes-last = refl

line-feed-kept : inputs_of (codes "a\n\n---\nb\n") ≡ codes "a\n" ∷ codes "b\n" ∷ []
line-feed-kept = refl

carriage-return : length (inputs_of (codes "a\r\n---\r\nb")) ≡ 1
carriage-return = refl
