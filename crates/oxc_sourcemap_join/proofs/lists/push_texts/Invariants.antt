use Rattle.std.proofs.Common.{◌≡◌, ◌+◌, ◌++◌, ◌≤◌, length, take, vec_len}
use Rattle.std.specs.Vec.{vec_capacity}
use Rattle.oxc_sourcemap_parts.specs.Views.{texts_of}
use Rattle.oxc_sourcemap_join.proofs.lists.push_texts.Given as goal

abbrev pub invariant-loop-text : goal.invariant-loop-text
invariant-loop-text l = record {
  items : texts_of l.texts ++ l.text-iterator ≡ texts_of l.initial.texts ++ l.fn.lent;
  front : take (vec_len l.initial.texts) l.texts.items ≡ l.initial.texts.items;
  longer : vec_len l.initial.texts ≤ vec_len l.texts;
  room : vec_len l.texts + length l.text-iterator ≤ vec_capacity l.texts;
}
