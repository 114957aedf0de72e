use Rattle.oxc_sourcemap_c.specs.Failures.{IsReadErrorAt}
use Rattle.oxc_sourcemap_c.proofs.Failing.{told_at}
use Rattle.oxc_sourcemap_c.proofs.making.reading_texts.proved_from_json_string.Goals as goal

pub returns-clause-error : goal.returns-clause-error
returns-clause-error c = λ n.
    let error = c.put_read.ensures.error n in
    (error.0, told_at (IsReadErrorAt c.args.json.now) c.read.result c.put_read.new.fault c.put_read.result c.read.ensures.error error.1)
