use Rattle.std.proofs.Common.{◌≡◌, ◌+◌, ◌++◌, ◌≤◌, map, take, vec_len}
use Rattle.std.specs.Vec.{vec_capacity}
use Rattle.std.specs.Cow.{cow_str_bytes}
use Rattle.std.specs.Option.{option_map}
use Rattle.oxc_sourcemap_parts.specs.Views.{contents_of}
use Rattle.oxc_sourcemap_join.proofs.lists.push_copies_fitted.Given as goal

abbrev pub invariant-loop-content : goal.invariant-loop-content
invariant-loop-content l = record {
  items : contents_of l.contents ≡ contents_of l.initial.contents ++ map (option_map cow_str_bytes) (take l.content-index (take l.known l.added));
  front : take (vec_len l.initial.contents) l.contents.items ≡ l.initial.contents.items;
  len : vec_len l.contents ≡ vec_len l.initial.contents + l.content-index;
  capacity : vec_capacity l.initial.contents ≤ vec_capacity l.contents;
}
