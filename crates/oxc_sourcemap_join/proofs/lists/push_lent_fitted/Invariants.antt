use Rattle.std.proofs.Common.{◌≡◌, ◌+◌, ◌-◌, ◌++◌, ◌≤◌, take, vec_len}
use Rattle.std.specs.Vec.{vec_capacity}
use Rattle.oxc_sourcemap_parts.specs.Views.{contents_of}
use Rattle.oxc_sourcemap_join.specs.Joined.{fitted}
use Rattle.oxc_sourcemap_join.proofs.lists.push_lent_fitted.Given as goal

abbrev pub invariant-loop-id : goal.invariant-loop-id
invariant-loop-id l = record {
  items : contents_of l.contents ++ fitted (l.count - l.id) l.lent ≡ contents_of l.initial.contents ++ fitted l.count l.fn.lent;
  front : take (vec_len l.initial.contents) l.contents.items ≡ l.initial.contents.items;
  len : vec_len l.contents ≡ vec_len l.initial.contents + l.id;
  capacity : vec_capacity l.initial.contents ≤ vec_capacity l.contents;
}
