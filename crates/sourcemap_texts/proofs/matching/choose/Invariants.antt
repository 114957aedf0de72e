use Rattle.std.proofs.Common.{◌≡◌, drop}
use Rattle.std.specs.List.{position_from}
use Rattle.sourcemap_texts.specs.Matching.{determines}
use Rattle.sourcemap_texts.proofs.matching.choose.Given as goal

-- the first candidate that determines the prefix is not among those so far
abbrev pub invariant-loop-i : goal.invariant-loop-i
invariant-loop-i l =
    position_from (determines l.own l.is_remote) l.i (drop l.i l.candidates) ≡ position_from (determines l.own l.is_remote) 0 l.candidates
