use Rattle.std.proofs.Common.{refl}
use Rattle.oxc_sourcemap_plan.proofs.Rooting.{decoded_map_rooted, rootless, rooting_keeps}
use Rattle.oxc_sourcemap_plan.proofs.Rooting.{sound_rooted, rootless_decoded_map, rooted_again}
use Rattle.oxc_sourcemap_plan.proofs.Rooting.{rooted_decoded_map_keeps, traces_rooted}
use Rattle.oxc_sourcemap_plan.proofs.Rooting.{rooted_up_to_repeats, rooting_stands}
use Rattle.oxc_sourcemap_plan.proofs.laws.rooting_idempotent.Goals as goal

pub returns-clause-decoded_map_of_rooting : goal.returns-clause-decoded_map_of_rooting
returns-clause-decoded_map_of_rooting c = decoded_map_rooted

pub returns-clause-again : goal.returns-clause-again
returns-clause-again c = λ r. (refl, rootless r)

pub returns-clause-decoded_maps_again : goal.returns-clause-decoded_maps_again
returns-clause-decoded_maps_again c = λ s. (rooted_again s, rootless_decoded_map s)

pub returns-clause-keeps : goal.returns-clause-keeps
returns-clause-keeps c = rooting_keeps

pub returns-clause-decoded_maps_keep : goal.returns-clause-decoded_maps_keep
returns-clause-decoded_maps_keep c = rooted_decoded_map_keeps

pub returns-clause-traces : goal.returns-clause-traces
returns-clause-traces c = traces_rooted

pub returns-clause-keeps_up_to_repeats : goal.returns-clause-keeps_up_to_repeats
returns-clause-keeps_up_to_repeats c = rooted_up_to_repeats

pub returns-clause-sound : goal.returns-clause-sound
returns-clause-sound c = sound_rooted

pub returns-clause-stands_for : goal.returns-clause-stands_for
returns-clause-stands_for c = rooting_stands
