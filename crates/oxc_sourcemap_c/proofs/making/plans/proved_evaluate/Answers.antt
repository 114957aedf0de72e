use Rattle.oxc_sourcemap_tokens.specs.Results.{lent_items}
use Rattle.oxc_sourcemap_c.specs.Plans.{IsPlanErrorAt}
use Rattle.oxc_sourcemap_c.proofs.Failing.{told_at}
use Rattle.oxc_sourcemap_c.proofs.making.plans.proved_evaluate.Goals as goal

pub returns-clause-error : goal.returns-clause-error
returns-clause-error c = λ n.
    let error = c.put_read.ensures.error n in
    (error.0, told_at (IsPlanErrorAt (lent_items c.args.words.now) (lent_items c.args.texts.now)) c.evaluate.result c.put_read.new.fault c.put_read.result c.evaluate.ensures.error error.1)
