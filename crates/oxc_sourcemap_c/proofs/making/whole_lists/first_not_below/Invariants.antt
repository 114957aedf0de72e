use Rattle.std.proofs.Common.{◌≡◌, drop}
use Rattle.oxc_sourcemap_json.specs.Decoded.{first_not_below}
use Rattle.oxc_sourcemap_c.proofs.making.whole_lists.first_not_below.Given as goal

abbrev pub invariant-loop-id : goal.invariant-loop-id
invariant-loop-id l = first_not_below l.count (drop l.id-index l.ids) ≡ first_not_below l.count l.ids
