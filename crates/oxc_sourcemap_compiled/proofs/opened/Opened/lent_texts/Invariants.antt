use Rattle.std.proofs.Common.{◌≡◌, ◌+◌, map, true}
use Rattle.std.specs.List.{range_with_len, list_all}
use Rattle.std.specs.Cow.{cow_str_bytes}
use Rattle.std.specs.Str.{is_utf8}
use Rattle.oxc_sourcemap_compiled.specs.Words.{listed_in}
use Rattle.oxc_sourcemap_compiled.proofs.opened.Opened.lent_texts.Given as goal

abbrev pub invariant-loop-i : goal.invariant-loop-i
invariant-loop-i l = record {
  texts : map cow_str_bytes l.texts.items ≡ map (λ i. listed_in l.self.bytes.now l.self.header (l.first + i)) (range_with_len 0 l.i);
  utf8 : list_all is_utf8 (map (λ i. listed_in l.self.bytes.now l.self.header (l.first + i)) (range_with_len 0 l.i)) ≡ true;
}
