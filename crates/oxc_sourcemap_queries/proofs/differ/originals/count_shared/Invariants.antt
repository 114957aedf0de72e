use Rattle.oxc_sourcemap_parts.specs.Views.{record_of_parts}
use Rattle.oxc_sourcemap_queries.specs.Originals.{AreShared}
use Rattle.oxc_sourcemap_queries.proofs.differ.originals.count_shared.Given as goal

abbrev pub invariant-loop-id : goal.invariant-loop-id
invariant-loop-id l = AreShared (record_of_parts l.a) (record_of_parts l.b) l.id
