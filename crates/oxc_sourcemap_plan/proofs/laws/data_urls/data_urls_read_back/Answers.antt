use Rattle.oxc_sourcemap_plan.proofs.ReadBack.{texts_read_back, maps_read_back}
use Rattle.oxc_sourcemap_plan.proofs.laws.data_urls.data_urls_read_back.Goals as goal

pub returns-clause-texts : goal.returns-clause-texts
returns-clause-texts c = texts_read_back

pub returns-clause-maps : goal.returns-clause-maps
returns-clause-maps c = maps_read_back
