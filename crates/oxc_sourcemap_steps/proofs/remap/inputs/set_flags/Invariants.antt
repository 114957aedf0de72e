use Rattle.std.proofs.Common.{◌≡◌, take, length, Some}
use Rattle.oxc_sourcemap_steps.specs.Blocks.{listed_flags}
use Rattle.oxc_sourcemap_steps.proofs.remap.inputs.set_flags.Given as goal

abbrev pub invariant-loop-id : goal.invariant-loop-id
invariant-loop-id l = l.flags.items ≡ listed_flags (Some (take l.id-index l.ids)) (length l.fn.flags.items)
