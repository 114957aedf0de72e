use Rattle.std.proofs.Common.{◌≡◌, ◌++◌, map, take}
use Rattle.std.specs.Cow.{cow_str_bytes}
use Rattle.oxc_sourcemap_steps.proofs.remap.lists.add_sources.Given as goal

abbrev pub invariant-loop-source : goal.invariant-loop-source
invariant-loop-source l = map cow_str_bytes l.sources.items ≡ map cow_str_bytes l.fn.sources.items ++ map cow_str_bytes (take l.source-index l.more)
