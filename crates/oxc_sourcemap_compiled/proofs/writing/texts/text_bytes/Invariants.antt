use Rattle.std.proofs.Common.{◌≡◌, ◌≤◌, ◌<◌}
use Rattle.oxc_sourcemap_parts.specs.Views.{record_of_parts}
use Rattle.oxc_sourcemap_compiled.specs.Compiled.{text_offset}
use Rattle.oxc_sourcemap_compiled.proofs.writing.texts.text_bytes.Given as goal

abbrev pub invariant-loop-t : goal.invariant-loop-t
invariant-loop-t l = record {
  small : l.sum ≤ 4294967295 → l.sum ≡ text_offset (record_of_parts l.parts) l.t;
  large : 4294967295 < l.sum → 4294967295 < text_offset (record_of_parts l.parts) l.t;
}
