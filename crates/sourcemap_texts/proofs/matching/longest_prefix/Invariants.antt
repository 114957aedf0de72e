use Rattle.std.proofs.Common.{string_bytes}
use Rattle.sourcemap_texts.specs.Matching.{below_length}
use Rattle.sourcemap_texts.proofs.matching.longest_prefix.Given as goal
use Rattle.sourcemap_texts.proofs.Longest.{IsMost}

-- the longest of the prefixes so far, and its length
abbrev pub invariant-loop-i : goal.invariant-loop-i
invariant-loop-i l = IsMost (λ p. below_length l.path (string_bytes p.left)) l.prefixes l.i l.longest l.most
