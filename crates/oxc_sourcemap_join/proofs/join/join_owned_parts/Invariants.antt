use Rattle.std.proofs.Common.{◌≡◌}
use Rattle.oxc_sourcemap_join.specs.Joined.{added_all, joined, owned_records}
use Rattle.oxc_sourcemap_join.proofs.join.join_owned_parts.Given as goal

abbrev pub invariant-loop-parts : goal.invariant-loop-parts
invariant-loop-parts l = added_all l.joined (owned_records l.parts-iterator.rest.items) ≡ joined (owned_records l.fn.maps.items)
