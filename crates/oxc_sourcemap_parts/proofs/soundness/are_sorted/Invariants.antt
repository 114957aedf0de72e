use Rattle.std.proofs.Common.{◌≡◌, ◌-◌, drop}
use Rattle.oxc_sourcemap_parts.specs.Sorted.{are_tokens_sorted}
use Rattle.oxc_sourcemap_parts.proofs.soundness.are_sorted.Given as goal

abbrev pub invariant-loop-i : goal.invariant-loop-i
invariant-loop-i l = are_tokens_sorted (drop (l.i - 1) l.tokens) ≡ are_tokens_sorted l.tokens
