use Rattle.oxc_sourcemap_c.specs.Failures.{IsFoundErrorAt}
use Rattle.oxc_sourcemap_c.proofs.Failing.{told_at}
use Rattle.oxc_sourcemap_c.proofs.making.reading_texts.proved_read_found.Goals as goal

pub returns-clause-error : goal.returns-clause-error
returns-clause-error c = λ n.
    let error = c.put_found.ensures.error n in
    (error.0, error.1, told_at (IsFoundErrorAt c.args.text.now) c.read_found.result c.put_found.new.fault c.put_found.result c.read_found.ensures.error error.2)
