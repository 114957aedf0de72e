use Rattle.oxc_sourcemap_c.specs.Failures.{IsMappingsErrorAt}
use Rattle.oxc_sourcemap_c.proofs.Failing.{told_at}
use Rattle.oxc_sourcemap_c.proofs.making.reading_texts.proved_decode_mappings.Goals as goal

pub returns-clause-error : goal.returns-clause-error
returns-clause-error c = λ n.
    let error = c.put_read.ensures.error n in
    (error.0, told_at (IsMappingsErrorAt c.args.mappings.now c.args.names c.args.sources) c.decode_mappings.result c.put_read.new.fault c.put_read.result c.decode_mappings.ensures.error error.1)
