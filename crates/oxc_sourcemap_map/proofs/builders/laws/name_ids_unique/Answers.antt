use Rattle.oxc_sourcemap_map.proofs.NameIds.{equal_ids}
use Rattle.oxc_sourcemap_map.proofs.builders.laws.name_ids_unique.Goals as goal

pub returns : goal.returns
returns c = equal_ids
