use Rattle.oxc_sourcemap_steps.proofs.Means.{decoded_map_simplified}
use Rattle.oxc_sourcemap_steps.proofs.Sound.{simplified-sound}
use Rattle.oxc_sourcemap_steps.proofs.Traces.{traces-stay, stays-sorted, is-least, mappings-stay}
use Rattle.oxc_sourcemap_steps.proofs.simplify.simplifying_harmless.Goals as goal

pub returns : goal.returns
returns c = record { traces = traces-stay; sorted = stays-sorted; least = is-least; once = mappings-stay; decoded_map = decoded_map_simplified; sound = simplified-sound }
