use Rattle.std.proofs.Common.{◌≡◌, map}
use Rattle.std.specs.Cow.{cow_str_bytes}
use Rattle.oxc_sourcemap_steps.proofs.remap.needed_names.lent_names.Given as goal

abbrev pub invariant-loop-name : goal.invariant-loop-name
invariant-loop-name l = map cow_str_bytes l.lent.items ≡ map (λ name. name.now) l.yielded
