use Rattle.oxc_sourcemap_plan.proofs.IgnoredSources.{marked_remapped}
use Rattle.oxc_sourcemap_plan.proofs.RemappedBounds.{bounds_remapped}
use Rattle.oxc_sourcemap_plan.proofs.RemappedMaps.{remappings_associative, nothing_remapped}
use Rattle.oxc_sourcemap_plan.proofs.RemappedMaps.{composition_remapped, one_remapped}
use Rattle.oxc_sourcemap_plan.proofs.RemappedMaps.{join_remapped, remapped_up_to_repeats}
use Rattle.oxc_sourcemap_plan.proofs.RemappedNames.{names-most, names-tested, room, answered}
use Rattle.oxc_sourcemap_plan.proofs.RemappedNames.{sorted_inputs}
use Rattle.oxc_sourcemap_plan.proofs.RemappedRecords.{decoded_map_remapped}
use Rattle.oxc_sourcemap_plan.proofs.RemappedStands.{sorted_remapped, counts_remapped}
use Rattle.oxc_sourcemap_plan.proofs.RemappedStands.{range_remapped, sound_remapped, some_remapped}
use Rattle.oxc_sourcemap_plan.proofs.RemappedStands.{remapping_stands, maps_associative}
use Rattle.oxc_sourcemap_plan.proofs.RemappedStands.{joined_maps_remapped, composed_maps_remapped}
use Rattle.oxc_sourcemap_plan.proofs.RemappedStands.{one_map_remapped}
use Rattle.oxc_sourcemap_plan.proofs.laws.remapping_associative.Goals as goal

pub returns-clause-decoded_map_of_remapping : goal.returns-clause-decoded_map_of_remapping
returns-clause-decoded_map_of_remapping c = decoded_map_remapped

pub returns-clause-ignores : goal.returns-clause-ignores
returns-clause-ignores c = λ a inputs. marked_remapped inputs a

pub returns-clause-decoded_maps : goal.returns-clause-decoded_maps
returns-clause-decoded_maps c = λ a bs cs. remappings_associative bs cs a

pub returns-clause-maps : goal.returns-clause-maps
returns-clause-maps c = maps_associative

pub returns-clause-join : goal.returns-clause-join
returns-clause-join c = λ ss inputs h. join_remapped inputs ss h

pub returns-clause-joined_maps : goal.returns-clause-joined_maps
returns-clause-joined_maps c = λ ms inputs h k. joined_maps_remapped inputs ms h k

pub returns-clause-composition : goal.returns-clause-composition
returns-clause-composition c = composition_remapped

pub returns-clause-composed_maps : goal.returns-clause-composed_maps
returns-clause-composed_maps c = composed_maps_remapped

pub returns-clause-one : goal.returns-clause-one
returns-clause-one c = one_remapped

pub returns-clause-one_map : goal.returns-clause-one_map
returns-clause-one_map c = one_map_remapped

pub returns-clause-nothing : goal.returns-clause-nothing
returns-clause-nothing c = nothing_remapped

pub returns-clause-keeps_up_to_repeats : goal.returns-clause-keeps_up_to_repeats
returns-clause-keeps_up_to_repeats c = remapped_up_to_repeats

pub returns-clause-stands_for : goal.returns-clause-stands_for
returns-clause-stands_for c = remapping_stands

pub returns-clause-sorted : goal.returns-clause-sorted
returns-clause-sorted c = sorted_remapped

pub returns-clause-in_range : goal.returns-clause-in_range
returns-clause-in_range c = range_remapped

pub returns-clause-sound : goal.returns-clause-sound
returns-clause-sound c = sound_remapped

pub returns-clause-any_map : goal.returns-clause-any_map
returns-clause-any_map c = λ a m inputs some. some_remapped a inputs m some

pub returns-clause-counts : goal.returns-clause-counts
returns-clause-counts c = counts_remapped

pub returns-clause-names : goal.returns-clause-names
returns-clause-names c = λ a inputs. (names-tested a inputs, names-most a inputs)

pub returns-clause-sorted_goes_on : goal.returns-clause-sorted_goes_on
returns-clause-sorted_goes_on c = sorted_inputs

pub returns-clause-answered : goal.returns-clause-answered
returns-clause-answered c = answered

pub returns-clause-too_large : goal.returns-clause-too_large
returns-clause-too_large c = room

pub returns-clause-in_bounds : goal.returns-clause-in_bounds
returns-clause-in_bounds c = bounds_remapped
