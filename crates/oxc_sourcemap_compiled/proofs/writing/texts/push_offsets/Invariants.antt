use Rattle.std.proofs.Common.{◌≡◌, ◌+◌, ◌++◌, map}
use Rattle.std.specs.List.{range_with_len}
use Rattle.oxc_sourcemap_parts.specs.Views.{record_of_parts}
use Rattle.oxc_sourcemap_compiled.specs.Compiled.{text_offset, table}
use Rattle.oxc_sourcemap_compiled.proofs.writing.texts.push_offsets.Given as goal

abbrev pub invariant-loop-t : goal.invariant-loop-t
invariant-loop-t l = record {
  end : l.end ≡ text_offset (record_of_parts l.parts) l.t;
  out : l.out.items ≡ l.fn.out.items ++ table (map (text_offset (record_of_parts l.parts)) (range_with_len 0 (l.t + 1)));
}
