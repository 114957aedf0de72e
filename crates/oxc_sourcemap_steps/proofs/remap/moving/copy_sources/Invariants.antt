use Rattle.std.proofs.Common.{◌≡◌, ◌++◌, take}
use Rattle.oxc_sourcemap_steps.specs.RemapSteps.{source_records}
use Rattle.oxc_sourcemap_steps.proofs.remap.moving.copy_sources.Given as goal

abbrev pub invariant-loop-source : goal.invariant-loop-source
invariant-loop-source l = source_records l.sources.items ≡ source_records l.fn.sources.items ++ source_records (take l.source-index l.more)
