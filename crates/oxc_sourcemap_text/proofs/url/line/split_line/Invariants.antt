use Rattle.std.proofs.Common.{ℕ, List, length}
use Rattle.std.specs.Str.Iter.{chars_rest}
use Rattle.oxc_sourcemap_text.proofs.LineCuts.{IsPassed}
use Rattle.oxc_sourcemap_text.proofs.url.line.split_line.Given as goal

abbrev pub invariant-loop-ch : goal.invariant-loop-ch
invariant-loop-ch l = (front : List ℕ) × IsPassed l.text (chars_rest l.rest) front

abbrev pub decreases-loop-ch : goal.decreases-loop-ch
decreases-loop-ch l = length (chars_rest l.rest)
