use Rattle.std.proofs.Common.{◌≡◌, ◌≤◌, length, take}
use Rattle.oxc_sourcemap_tokens.specs.Steps.{source_given, last_given}
use Rattle.oxc_sourcemap_tokens.proofs.state.last_source.Given as goal

abbrev pub invariant-loop-left : goal.invariant-loop-left
invariant-loop-left l = record {
  within : l.left ≤ length l.tokens;
  rest : last_given source_given (take l.left l.tokens) ≡ last_given source_given l.tokens;
}

abbrev pub decreases-loop-left : goal.decreases-loop-left
decreases-loop-left l = l.left
