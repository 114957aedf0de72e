use Rattle.std.proofs.Common.{◌≡◌, map, option_map}
use Rattle.std.specs.Cow.{cow_str_bytes}
use Rattle.oxc_sourcemap_parts.proofs.strings.into_owned_contents.Given as goal

abbrev pub invariant-loop-content : goal.invariant-loop-content
invariant-loop-content l = map (option_map cow_str_bytes) l.owned.items ≡ map (option_map cow_str_bytes) l.yielded
