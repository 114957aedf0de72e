use Rattle.std.proofs.Common.{◌≡◌, drop}
use Rattle.oxc_sourcemap_scopes.specs.Items.{all_values, with_others}
use Rattle.oxc_sourcemap_scopes.proofs.lists.push_values.Given as goal

-- the values so far and those of the numbers that are left are all
abbrev pub invariant-loop-raw : goal.invariant-loop-raw
invariant-loop-raw l = with_others l.list.items (all_values l.at l.count (drop l.raw-index l.raws)) ≡ with_others l.fn.list.items (all_values l.at l.count l.raws)
