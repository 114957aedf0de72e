use Rattle.oxc_sourcemap_join.proofs.Joining.{fitting_chunks}
use Rattle.oxc_sourcemap_plan.proofs.Joins.{joins_associative, one_more}
use Rattle.oxc_sourcemap_plan.proofs.laws.joins_associative.Goals as goal

pub returns-clause-associative : goal.returns-clause-associative
returns-clause-associative c = joins_associative

pub returns-clause-one_more : goal.returns-clause-one_more
returns-clause-one_more c = one_more

pub returns-clause-chunks_fit : goal.returns-clause-chunks_fit
returns-clause-chunks_fit c = λ ms. let f = fitting_chunks ms in record { chunks = f.chunks; has = f.has; count = f.count; fit = f.fit }
