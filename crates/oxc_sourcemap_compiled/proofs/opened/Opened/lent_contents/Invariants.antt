use Rattle.std.proofs.Common.{◌≡◌, ◌+◌, map, true}
use Rattle.std.specs.List.{range_with_len, list_all}
use Rattle.oxc_sourcemap_parts.specs.Views.{text_of}
use Rattle.oxc_sourcemap_compiled.specs.Decompiled.{is_optional_utf8}
use Rattle.oxc_sourcemap_compiled.specs.Words.{optional_in}
use Rattle.oxc_sourcemap_compiled.proofs.opened.Opened.lent_contents.Given as goal

abbrev pub invariant-loop-i : goal.invariant-loop-i
invariant-loop-i l = record {
  texts : map text_of l.texts.items ≡ map (λ i. optional_in l.self.bytes.now l.self.header (l.first + i)) (range_with_len 0 l.i);
  utf8 : list_all is_optional_utf8 (map (λ i. optional_in l.self.bytes.now l.self.header (l.first + i)) (range_with_len 0 l.i)) ≡ true;
}
