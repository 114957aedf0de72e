use Rattle.std.proofs.Common.{◌≡◌, map, option_map, take}
use Rattle.std.specs.Cow.{cow_str_bytes}
use Rattle.oxc_sourcemap_steps.proofs.compose.compose.copied_contents.Given as goal

abbrev pub invariant-loop-content : goal.invariant-loop-content
invariant-loop-content l = map (option_map cow_str_bytes) l.copies.items ≡ map (option_map cow_str_bytes) (take l.content-index l.contents)
