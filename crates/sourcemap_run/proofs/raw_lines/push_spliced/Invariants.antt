use Rattle.std.proofs.Common.{◌≡◌, ◌++◌, drop}
use Rattle.sourcemap_run.specs.RawLines.{spliced}
use Rattle.sourcemap_run.proofs.raw_lines.push_spliced.Given as goal

-- what was appended, and the line from `from` on with the places that are left, are what is to be appended
abbrev pub invariant-loop-splice : goal.invariant-loop-splice
invariant-loop-splice l =
    l.out.items ++ spliced l.line l.from (drop l.splice-index l.splices) ≡ l.initial.out.items ++ spliced l.line 0 l.splices
