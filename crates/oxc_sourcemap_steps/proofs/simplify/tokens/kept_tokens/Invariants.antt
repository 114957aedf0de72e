use Rattle.std.proofs.Common.{◌≡◌, ◌+◌, ◌≤◌, [], drop, length, vec_len}
use Rattle.std.specs.Vec.{vec_capacity}
use Rattle.oxc_sourcemap_parts.specs.Sorted.{token_line, token_column}
use Rattle.oxc_sourcemap_tokens.specs.Results.{lent_item}
use Rattle.oxc_sourcemap_steps.specs.Simple.{found_items}
use Rattle.oxc_sourcemap_steps.specs.SimplifySteps.{AreNumbers, with_all, with_source, with_name}
use Rattle.oxc_sourcemap_steps.specs.SimplifySteps.{position_of}
use Rattle.oxc_sourcemap_steps.proofs.SimplifyWalk.{Walk}
use Rattle.oxc_sourcemap_steps.proofs.simplify.tokens.kept_tokens.Given as goal

abbrev pub invariant-loop-i : goal.invariant-loop-i
invariant-loop-i l = record {
  numbers : AreNumbers l.tables l.kept.numbers;
  walk : Walk l.tables l.tokens (with_all (with_source l.tables) [] (found_items token_line token_column l.tokens)) (with_all (with_name l.tables) [] (found_items token_line token_column l.tokens))
      (lent_item l.previous) l.repeats (drop l.i l.tokens) l.kept.numbers.sources.numbering.order.items l.kept.numbers.names.numbering.order.items l.kept.tokens.items;
  last : l.last ≡ position_of (lent_item l.previous);
  room : vec_len l.kept.tokens + length (drop l.i l.tokens) ≤ vec_capacity l.kept.tokens;
}
