use Rattle.std.proofs.Common.{◌≡◌, ◌++◌}
use Rattle.std.specs.List.{flat_map, range_with_len}
use Rattle.oxc_sourcemap_parts.specs.Views.{record_of_parts}
use Rattle.oxc_sourcemap_compiled.specs.Compiled.{stored_text}
use Rattle.oxc_sourcemap_compiled.proofs.writing.texts.push_texts.Given as goal

abbrev pub invariant-loop-t : goal.invariant-loop-t
invariant-loop-t l = l.out.items ≡ l.initial.out.items ++ flat_map (stored_text (record_of_parts l.parts)) (range_with_len 0 l.t)
