use Rattle.oxc_sourcemap_compiled.proofs.Means.{compiled-means, compiled-in-order}
use Rattle.oxc_sourcemap_compiled.proofs.Means.{compiled-looks-up, compiled-taken-apart}
use Rattle.oxc_sourcemap_compiled.proofs.StoredMaps.{stored-means}
use Rattle.oxc_sourcemap_compiled.proofs.laws.compiled_means_map.Goals as goal

pub returns-clause-means : goal.returns-clause-means
returns-clause-means c = compiled-means

pub returns-clause-in_order : goal.returns-clause-in_order
returns-clause-in_order c = compiled-in-order

pub returns-clause-looks_up : goal.returns-clause-looks_up
returns-clause-looks_up c = compiled-looks-up

pub returns-clause-stored : goal.returns-clause-stored
returns-clause-stored c = stored-means

pub returns-clause-taken_apart : goal.returns-clause-taken_apart
returns-clause-taken_apart c = compiled-taken-apart
