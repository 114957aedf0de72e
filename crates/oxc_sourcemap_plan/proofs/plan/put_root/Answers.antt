use Rattle.std.proofs.Common.{subst, sym}
use Rattle.oxc_sourcemap_parts.specs.Views.{record_of_parts}
use Rattle.oxc_sourcemap_plan.specs.Outcome.{root_outcome}
use Rattle.oxc_sourcemap_plan.specs.Realizes.{Realizes}
use Rattle.oxc_sourcemap_plan.proofs.Remapping.{root_gives}
use Rattle.oxc_sourcemap_plan.proofs.plan.put_root.Goals as goal

pub returns-clause-map : goal.returns-clause-map
returns-clause-map c = λ o g.
    subst (λ m. Realizes m (root_outcome o)) (sym c.in_ok-apply_root.ensures.rooted) (root_gives c.rooting_idempotent.ensures.stands_for (record_of_parts c.args.map) o g)
