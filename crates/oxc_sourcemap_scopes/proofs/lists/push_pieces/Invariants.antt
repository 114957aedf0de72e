use Rattle.std.proofs.Common.{◌≡◌, length}
use Rattle.oxc_sourcemap_scopes.specs.Items.{all_pieces, with_others}
use Rattle.oxc_sourcemap_scopes.proofs.lists.push_pieces.Given as goal

-- the pieces so far and those of the numbers that are left are all
abbrev pub invariant-loop-rest : goal.invariant-loop-rest
invariant-loop-rest l = with_others l.list.items (all_pieces l.at l.variable l.from l.count l.rest) ≡ with_others l.fn.list.items (all_pieces l.at l.variable l.fn.start l.count l.numbers)

abbrev pub decreases-loop-rest : goal.decreases-loop-rest
decreases-loop-rest l = length l.rest
