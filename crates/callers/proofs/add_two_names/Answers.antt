use Rattle.callers.proofs.Naming.{two-ids}
use Rattle.callers.proofs.add_two_names.Goals as goal

pub returns : goal.returns
returns c =
    two-ids c.name_ids_unique.ensures c.args.builder.now _ _ c.args.name.now c.args.other.now _ _ c.in_ok-name_id.ensures.added c.in_ok-other_id.ensures.added
