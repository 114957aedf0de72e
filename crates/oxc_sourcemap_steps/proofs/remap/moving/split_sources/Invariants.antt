use Rattle.std.proofs.Common.{◌≡◌, map, option_map}
use Rattle.std.specs.Cow.{cow_str_bytes}
use Rattle.oxc_sourcemap_steps.specs.RemapSteps.{source_records}
use Rattle.oxc_sourcemap_steps.proofs.remap.moving.split_sources.Given as goal

abbrev pub invariant-loop-source : goal.invariant-loop-source
invariant-loop-source l = record {
  paths : map cow_str_bytes l.paths.items ≡ map (λ s. s.path) (source_records l.yielded);
  contents : map (option_map cow_str_bytes) l.contents.items ≡ map (λ s. s.content) (source_records l.yielded);
}
