use Rattle.std.proofs.Common.{◌≡◌, ◌+◌, ◌++◌, ◌≤◌, map, take, vec_len}
use Rattle.std.specs.Vec.{vec_capacity}
use Rattle.oxc_sourcemap_join.proofs.shift.push_raised.Given as goal

abbrev pub invariant-loop-id : goal.invariant-loop-id
invariant-loop-id l = record {
  items : l.list.items ≡ l.initial.list.items ++ map (λ id. id + l.number) (take l.id-index l.added);
  len : vec_len l.list ≡ vec_len l.initial.list + l.id-index;
  capacity : vec_capacity l.initial.list ≤ vec_capacity l.list;
}
