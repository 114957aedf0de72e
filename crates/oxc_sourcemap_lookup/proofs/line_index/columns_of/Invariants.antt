use Rattle.std.proofs.Common.{◌≡◌, ◌≤◌, map, take, length, vec_len}
use Rattle.std.specs.Vec.{vec_capacity}
use Rattle.oxc_sourcemap_parts.specs.Sorted.{token_column}
use Rattle.oxc_sourcemap_lookup.proofs.line_index.columns_of.Given as goal

abbrev pub invariant-loop-token : goal.invariant-loop-token
invariant-loop-token l = record {
  items : l.columns.items ≡ map token_column (take l.token-index l.tokens);
  len : vec_len l.columns ≡ l.token-index;
  capacity : length l.tokens ≤ vec_capacity l.columns;
}
