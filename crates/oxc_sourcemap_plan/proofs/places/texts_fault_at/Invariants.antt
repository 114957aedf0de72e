use Rattle.std.proofs.Common.{◌≡◌, drop}
use Rattle.oxc_sourcemap_tokens.specs.Results.{lent_items}
use Rattle.oxc_sourcemap_plan.specs.PlanPlaces.{unread_from, first_unread}
use Rattle.oxc_sourcemap_plan.proofs.places.texts_fault_at.Given as goal

-- the first text that cannot be read is among those that are left
abbrev pub invariant-loop-k : goal.invariant-loop-k
invariant-loop-k l = unread_from l.k (lent_items (drop l.k l.texts)) ≡ first_unread (lent_items l.texts)
