-- How deep a plan is.
use Rattle.std.specs.Prelude.{ℕ, ◌+◌, max, List, [], ◌∷◌, map}
use Rattle.oxc_sourcemap_plan.specs.declared.plan.Plan.{Plan}
use Rattle.oxc_sourcemap_plan.specs.declared.plan.Plan.TheOpen.{Plan-F}
use Rattle.oxc_sourcemap_plan.specs.declared.plan.Plan.TheFolds.{fold-Plan}

-- the greatest depth among parts, 0 if there are none
abbrev pub deepest : List ℕ → ℕ
deepest [] = 0
deepest (part ∷ parts) = max part (deepest parts)

-- one more than the greatest depth of the parts
abbrev pub depth_step : Plan-F ℕ → ℕ
depth_step (Plan-F.Read text) = 1
depth_step (Plan-F.ReadSorted text) = 1
depth_step (Plan-F.Rewrite part) = part.value + 1
depth_step (Plan-F.ApplyRoot part) = part.value + 1
depth_step (Plan-F.Simplify part) = part.value + 1
depth_step (Plan-F.Join parts) = deepest (map (λ p. p.0) parts.items) + 1
depth_step (Plan-F.JoinAt parts) = deepest (map (λ p. p.0) parts.items) + 1
depth_step (Plan-F.Compose first second) = max first.value second.value + 1
depth_step (Plan-F.Remap first inputs) = max first.value (deepest (map (λ p. p.1) inputs.items)) + 1

abbrev pub depth : Plan → ℕ
depth = fold-Plan ℕ depth_step
