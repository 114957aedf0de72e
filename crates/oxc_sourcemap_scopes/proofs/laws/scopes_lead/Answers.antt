use Rattle.oxc_sourcemap_scopes.proofs.Named.{scopes-named, scopes-counted, scopes-bound}
use Rattle.oxc_sourcemap_scopes.proofs.laws.scopes_lead.Goals as goal

pub returns-clause-names : goal.returns-clause-names
returns-clause-names c = λ text names. scopes-named names text

pub returns-clause-sources : goal.returns-clause-sources
returns-clause-sources c = λ text names. scopes-counted names text

pub returns-clause-values : goal.returns-clause-values
returns-clause-values c = λ text names. scopes-bound names text
