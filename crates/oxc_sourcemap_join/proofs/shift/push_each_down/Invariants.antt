use Rattle.std.proofs.Common.{◌≡◌, ◌+◌, ◌++◌, ◌≤◌, take, vec_len}
use Rattle.std.specs.List.{All}
use Rattle.std.specs.Vec.{vec_capacity}
use Rattle.oxc_sourcemap_tokens.specs.Token.{AreInBounds}
use Rattle.oxc_sourcemap_join.specs.Joining.{all_shifted, IsInReach}
use Rattle.oxc_sourcemap_join.proofs.shift.push_each_down.Given as goal

abbrev pub invariant-loop-token : goal.invariant-loop-token
invariant-loop-token l = record {
  front : take (vec_len l.initial.tokens) l.tokens.items ≡ l.initial.tokens.items;
  items : AreInBounds (all_shifted l.shift (take l.token-index l.added)) → l.tokens.items ≡ l.initial.tokens.items ++ all_shifted l.shift (take l.token-index l.added);
  reach : All (IsInReach l.reach) (take l.token-index l.added);
  len : vec_len l.tokens ≡ vec_len l.initial.tokens + l.token-index;
  capacity : vec_capacity l.initial.tokens ≤ vec_capacity l.tokens;
}
