use Rattle.std.proofs.Common.{◌≡◌, map, string_bytes, option_map}
use Rattle.std.specs.Cow.{cow_str_bytes}
use Rattle.oxc_sourcemap_parts.proofs.strings.into_optional_strings.Given as goal

abbrev pub invariant-loop-content : goal.invariant-loop-content
invariant-loop-content l = map (option_map string_bytes) l.strings.items ≡ map (option_map cow_str_bytes) l.yielded
