use Rattle.std.proofs.Common.{◌≡◌, drop}
use Rattle.oxc_sourcemap_scopes.specs.Items.{indices_moved, with_indices}
use Rattle.oxc_sourcemap_scopes.proofs.lists.push_indices.Given as goal

-- the indices so far and those of the numbers that are left are all
abbrev pub invariant-loop-raw : goal.invariant-loop-raw
invariant-loop-raw l = with_indices l.list.items l.last (indices_moved l.at l.last l.count (drop l.raw-index l.raws)) ≡ with_indices l.fn.list.items l.before (indices_moved l.at l.before l.count l.raws)
