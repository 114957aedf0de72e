use Rattle.std.proofs.Common.{◌≡◌, take, drop}
use Rattle.oxc_sourcemap_text.specs.TextLines.{lines_of}
use Rattle.oxc_sourcemap_text.proofs.Cuts.{before_first}
use Rattle.oxc_sourcemap_text.proofs.positions.text_lines.first_line_len.Given as goal

abbrev pub invariant-loop-i : goal.invariant-loop-i
invariant-loop-i l = before_first (take l.i l.units) (lines_of (drop l.i l.units)) ≡ lines_of l.units
