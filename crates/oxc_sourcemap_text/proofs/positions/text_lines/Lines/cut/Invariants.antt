use Rattle.std.proofs.Common.{◌≡◌, ◌++◌, length, map}
use Rattle.oxc_sourcemap_text.specs.TextLines.{lines_of}
use Rattle.oxc_sourcemap_text.proofs.positions.text_lines.Lines.cut.Given as goal

abbrev pub invariant-loop-len : goal.invariant-loop-len
invariant-loop-len l = map (λ line. line.now) l.lines.items ++ lines_of l.rest ≡ lines_of l.units

abbrev pub decreases-loop-len : goal.decreases-loop-len
decreases-loop-len l = length l.rest
