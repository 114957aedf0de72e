use Rattle.oxc_sourcemap_plan.proofs.SimplifiedMaps.{simplified_up_to_repeats, simplifying_stands}
use Rattle.oxc_sourcemap_plan.proofs.SimplifiedMaps.{simplifying_counts, simplifying_names}
use Rattle.oxc_sourcemap_plan.proofs.SimplifiedMaps.{simplifying_in_bounds}
use Rattle.oxc_sourcemap_plan.proofs.laws.simplifying_stands.Goals as goal

pub returns-clause-ends_repeats : goal.returns-clause-ends_repeats
returns-clause-ends_repeats c = simplified_up_to_repeats

pub returns-clause-stands_for : goal.returns-clause-stands_for
returns-clause-stands_for c = simplifying_stands

pub returns-clause-counts : goal.returns-clause-counts
returns-clause-counts c = simplifying_counts

pub returns-clause-names : goal.returns-clause-names
returns-clause-names c = simplifying_names

pub returns-clause-in_bounds : goal.returns-clause-in_bounds
returns-clause-in_bounds c = simplifying_in_bounds
