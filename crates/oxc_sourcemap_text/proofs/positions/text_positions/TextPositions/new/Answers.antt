use Rattle.std.proofs.Common.{◌≤◌, length, arith}
use Rattle.std.proofs.lemmas.Grind.{common_steps}
use Rattle.oxc_sourcemap_text.specs.TextLines.{units_of}
use Rattle.oxc_sourcemap_text.proofs.Calls.{size-large, size-fits}
use Rattle.oxc_sourcemap_text.proofs.positions.text_positions.TextPositions.new.Goals as goal

pub returns-in_err-scan : goal.returns-in_err-scan
returns-in_err-scan c = grind (arith, common_steps, size-large c.args.text.now)

pub returns : goal.returns
returns c =
    let fits : length (units_of c.args.text.now) ≤ 4294967295 = grind (arith, common_steps) in
    let is = size-fits c.args.text.now fits in
    grind (arith, common_steps, is)
