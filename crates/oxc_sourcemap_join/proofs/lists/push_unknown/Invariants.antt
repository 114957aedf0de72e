use Rattle.std.proofs.Common.{◌≡◌, ◌+◌, ◌++◌, ◌≤◌, replicate, take, vec_len, None}
use Rattle.std.specs.Vec.{vec_capacity}
use Rattle.oxc_sourcemap_parts.specs.Views.{contents_of}
use Rattle.oxc_sourcemap_join.proofs.lists.push_unknown.Given as goal

abbrev pub invariant-loop-i : goal.invariant-loop-i
invariant-loop-i l = record {
  items : contents_of l.contents ≡ contents_of l.initial.contents ++ replicate l.i None;
  front : take (vec_len l.initial.contents) l.contents.items ≡ l.initial.contents.items;
  len : vec_len l.contents ≡ vec_len l.initial.contents + l.i;
  capacity : vec_capacity l.initial.contents ≤ vec_capacity l.contents;
}
