use Rattle.oxc_sourcemap_text.proofs.Steps.{scan-end, on-ok}
use Rattle.oxc_sourcemap_text.proofs.positions.scan.Scan.end.Goals as goal

pub returns-clause-read : goal.returns-clause-read
returns-clause-read c = λ units is. on-ok _ _ _ (λ e. scan-end units c.args.self.now c.push_if.new.offsets is e) c.push_if.ensures
