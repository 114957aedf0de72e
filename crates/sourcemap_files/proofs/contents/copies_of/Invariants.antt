use Rattle.std.proofs.Common.{◌≡◌, map, take}
use Rattle.std.specs.Cow.{cow_str_bytes}
use Rattle.sourcemap_files.proofs.contents.copies_of.Given as goal

abbrev pub invariant-loop-text : goal.invariant-loop-text
invariant-loop-text l = map cow_str_bytes l.copies.items ≡ map cow_str_bytes (take l.text-index l.texts)
