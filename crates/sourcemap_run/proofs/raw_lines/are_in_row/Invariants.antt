use Rattle.std.proofs.Common.{◌≡◌, drop}
use Rattle.sourcemap_run.specs.RawLines.{are_in_row}
use Rattle.sourcemap_run.proofs.raw_lines.are_in_row.Given as goal

-- the places that are left decide
abbrev pub invariant-loop-splice : goal.invariant-loop-splice
invariant-loop-splice l = are_in_row l.len l.from (drop l.splice-index l.splices) ≡ are_in_row l.len 0 l.splices
