use Rattle.std.proofs.Common.{◌≡◌, ◌++◌, map, drop, get_or, false}
use Rattle.oxc_sourcemap_steps.specs.RemapSteps.{set_from}
use Rattle.oxc_sourcemap_steps.proofs.simplify.simplify.ignored_indices.Given as goal

abbrev pub invariant-loop-i : goal.invariant-loop-i
invariant-loop-i l = l.places.items ++ set_from l.i (map (λ k. get_or l.flags k false) (drop l.i l.order)) ≡ set_from 0 (map (λ k. get_or l.flags k false) l.order)
