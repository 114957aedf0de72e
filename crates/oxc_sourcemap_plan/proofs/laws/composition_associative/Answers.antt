use Rattle.oxc_sourcemap_plan.proofs.Compositions.{composed_up_to_repeats, decoded_maps_associative}
use Rattle.oxc_sourcemap_plan.proofs.Compositions.{decoded_map_composed, range_composed}
use Rattle.oxc_sourcemap_plan.proofs.Compositions.{count_composed, composition_stands}
use Rattle.oxc_sourcemap_plan.proofs.Compositions.{records_associative}
use Rattle.oxc_sourcemap_plan.proofs.ComposedNames.{names-most, names-tested}
use Rattle.oxc_sourcemap_plan.proofs.Groupings.{groupings_agree, fail_together, both_answer}
use Rattle.oxc_sourcemap_plan.proofs.Groupings.{left_tells, right_tells, room}
use Rattle.oxc_sourcemap_plan.proofs.ComposedBounds.{bounds_composed}
use Rattle.oxc_sourcemap_lookup.proofs.OwnTables.{line_goes_on}
use Rattle.oxc_sourcemap_plan.proofs.laws.composition_associative.Goals as goal

pub returns-clause-decoded_map_of_composition : goal.returns-clause-decoded_map_of_composition
returns-clause-decoded_map_of_composition c = decoded_map_composed

pub returns-clause-keeps_up_to_repeats : goal.returns-clause-keeps_up_to_repeats
returns-clause-keeps_up_to_repeats c = composed_up_to_repeats

pub returns-clause-stands_for : goal.returns-clause-stands_for
returns-clause-stands_for c = composition_stands

pub returns-clause-decoded_maps : goal.returns-clause-decoded_maps
returns-clause-decoded_maps c = decoded_maps_associative

pub returns-clause-composed_maps : goal.returns-clause-composed_maps
returns-clause-composed_maps c = records_associative

pub returns-clause-associative : goal.returns-clause-associative
returns-clause-associative c = groupings_agree

pub returns-clause-fail_together : goal.returns-clause-fail_together
returns-clause-fail_together c = λ a b m x y z n k. fail_together a b m y z x n k

pub returns-clause-answered : goal.returns-clause-answered
returns-clause-answered c = λ a b m x y z n k. both_answer a b m y z x n k

pub returns-clause-tell : goal.returns-clause-tell
returns-clause-tell c = λ a b m x y z. (left_tells a b m x y z, right_tells a b m x y z)

pub returns-clause-in_range : goal.returns-clause-in_range
returns-clause-in_range c = range_composed

pub returns-clause-names : goal.returns-clause-names
returns-clause-names c = λ a b. (λ test h k. names-tested test a b h k, names-most a b)

pub returns-clause-tokens : goal.returns-clause-tokens
returns-clause-tokens c = count_composed

pub returns-clause-too_large : goal.returns-clause-too_large
returns-clause-too_large c = room

pub returns-clause-in_bounds : goal.returns-clause-in_bounds
returns-clause-in_bounds c = bounds_composed

pub returns-clause-sorted_goes_on : goal.returns-clause-sorted_goes_on
returns-clause-sorted_goes_on c = λ tokens h n. line_goes_on n tokens h
