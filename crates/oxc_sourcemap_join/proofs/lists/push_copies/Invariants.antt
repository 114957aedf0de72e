use Rattle.std.proofs.Common.{◌≡◌, ◌+◌, ◌++◌, ◌≤◌, take, vec_len}
use Rattle.std.specs.Vec.{vec_capacity}
use Rattle.oxc_sourcemap_parts.specs.Views.{texts_of, cow_texts}
use Rattle.oxc_sourcemap_join.proofs.lists.push_copies.Given as goal

abbrev pub invariant-loop-text : goal.invariant-loop-text
invariant-loop-text l = record {
  items : texts_of l.texts ≡ texts_of l.initial.texts ++ cow_texts (take l.text-index l.added);
  front : take (vec_len l.initial.texts) l.texts.items ≡ l.initial.texts.items;
  len : vec_len l.texts ≡ vec_len l.initial.texts + l.text-index;
  capacity : vec_capacity l.initial.texts ≤ vec_capacity l.texts;
}
