use Rattle.std.proofs.Common.{◌≡◌, ◌++◌, map, length}
use denote.Shadow.{shadow}
use denote.Text.{Utf8}
use Rattle.oxc_sourcemap_plan.specs.PlanInputs.{inputs_of}
use Rattle.oxc_sourcemap_plan.proofs.plan_arguments.inputs_of.Given as goal

abbrev pub invariant-loop-inputs : goal.invariant-loop-inputs
invariant-loop-inputs l = shadow (Utf8 l.rest) × (inputs_of l.input ≡ map (λ text. text.now) l.inputs.items ++ inputs_of l.rest)

abbrev pub decreases-loop-inputs : goal.decreases-loop-inputs
decreases-loop-inputs l = length l.rest
