use Rattle.std.proofs.Common.{◌∙◌}
use Rattle.oxc_sourcemap_text.proofs.Steps.{scan-pairs}
use Rattle.oxc_sourcemap_text.proofs.positions.scan.scan_text.Goals as goal

pub returns-clause-pairs : goal.returns-clause-pairs
returns-clause-pairs c = c.end.ensures.second_halves ∙ scan-pairs _ _ c.in_ok-scan.ensures.scan
