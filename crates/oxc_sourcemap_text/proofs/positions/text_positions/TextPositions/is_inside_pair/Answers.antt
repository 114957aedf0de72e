use Rattle.std.proofs.Common.{◌≡◌, ◌∙◌}
use Rattle.std.proofs.lemmas.List.Sorted.{searched}
use Rattle.oxc_sourcemap_text.specs.TextLines.{units_of}
use Rattle.oxc_sourcemap_text.specs.Scans.{second_halves}
use Rattle.oxc_sourcemap_text.proofs.Calls.{halves-order, pair-found}
use Rattle.oxc_sourcemap_text.proofs.positions.text_positions.TextPositions.is_inside_pair.Goals as goal

pub returns : goal.returns
returns c =
    let units = units_of c.args.self.now in
    let xs = c.deref.result.now in
    let is : xs ≡ second_halves 0 units = cc in
    c.is_ok.ensures.value ∙ pair-found units xs c.args.offset c.binary_search.result is (searched xs c.args.offset c.binary_search.result c.binary_search.ensures.position (halves-order units xs is))
